use Rattle.std.proofs.Common.{◌≡◌, false, sym, ap, ◌∙◌, arith, pos, ◌-ℤ◌, to_z, of_z, w8}
use Rattle.std.proofs.lemmas.Bool.Decides.{nat_tests}
use Rattle.std.proofs.lemmas.Int.{ints}
use Rattle.seed_sets.specs.Endings.{is_next, index_by}
use Rattle.seed_sets.proofs.EndingLemmas.{minus-is}
use Rattle.seed_sets.proofs.endings.Rest.index.Goals as goal

pub returns-else-self-eq1 : goal.returns-else-self-eq1
returns-else-self-eq1 c =
    let off : is_next c.args.self ≡ false = grind (arith, nat_tests) in
    let value : to_z w8 (of_z w8 (pos 0 -ℤ to_z w8 c.args.step)) ≡ pos 0 -ℤ pos c.args.step = omega (arith, ints) in
    value ∙ sym (minus-is c.args.step) ∙ ap (λ b. index_by b c.args.step) (sym off)
