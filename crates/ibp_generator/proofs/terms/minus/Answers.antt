-- The size of the index is reduced first.
use Rattle.std.proofs.Common.{◌≡◌, ◌%◌, ◌∙◌, ap, arith, pos, ◌<ℤ◌, ◌≤ℤ◌, unsigned_abs, to_z, of_z, w8}
use Rattle.std.proofs.lemmas.Int.{ints}
use Rattle.ibp_generator.proofs.SumLemmas.{minus-negative, minus-positive}
use Rattle.ibp_generator.proofs.terms.minus.Goals as goal

pub returns-then-index-lt0-clause-value : goal.returns-then-index-lt0-clause-value
returns-then-index-lt0-clause-value c =
    let below : c.args.index <ℤ pos 0 = grind (arith, ints) in
    let value : to_z w8 (of_z w8 c.args.index) ≡ c.args.index = omega (arith, ints) in
    let size : c.reduce-size.result ≡ unsigned_abs c.args.index % c.args.modulus.now =
    c.reduce-size.ensures.value ∙ ap (λ n. n % c.args.modulus.now) (c.from.ensures ∙ c.unsigned_abs.ensures.value ∙ ap unsigned_abs value) in
    minus-negative c.args.modulus.now c.args.index c.reduce-size.result below size

pub returns-else-index-lt0-clause-value : goal.returns-else-index-lt0-clause-value
returns-else-index-lt0-clause-value c =
    let above : pos 0 ≤ℤ c.args.index = grind (arith, ints) in
    let value : to_z w8 (of_z w8 c.args.index) ≡ c.args.index = omega (arith, ints) in
    let size : c.reduce-size.result ≡ unsigned_abs c.args.index % c.args.modulus.now =
    c.reduce-size.ensures.value ∙ ap (λ n. n % c.args.modulus.now) (c.from.ensures ∙ c.unsigned_abs.ensures.value ∙ ap unsigned_abs value) in
    c.neg.ensures.value ∙ minus-positive c.args.modulus.now c.args.index c.reduce-size.result above size
