-- The raised term, and then the lowered ones.
use Rattle.std.proofs.Common.{◌≡◌, ℕ, ◌+◌, ◌∙◌, length, ap}
use Rattle.std.proofs.lemmas.Result.{on_ok_weaker}
use Rattle.integral_index.specs.Integral.{Integral}
use Rattle.field_word.specs.Residues.{product_of}
use Rattle.sparse_row.specs.Terms.{coefficient_at}
use Rattle.propagators.specs.Sums.{sum_to}
use Rattle.ibp_generator.specs.Shifts.{index_at, lowered}
use Rattle.ibp_generator.specs.Equation.{denominator_sum, minus, residue_at, term_of}
use Rattle.ibp_generator.specs.Collecting.{Gains}
use Rattle.ibp_generator.proofs.DenominatorLemmas.{denominator_sum-is}
use Rattle.ibp_generator.proofs.ShiftLemmas.{index_read}
use Rattle.ibp_generator.proofs.TermLemmas.{Gains-more, Gains-same}
use Rattle.ibp_generator.proofs.terms.push_denominator.Goals as goal

pub returns-clause-gains : goal.returns-clause-gains
returns-clause-gains c =
    let p = c.args.modulus.now in
    let seed = c.args.seed.now in
    let up = c.in_ok-raised.raised in
    let zeros = c.args.zeros.now in
    let residues = c.args.residues.now in
    let multiplier = c.minus-multiplier.result in
    let first : Integral → ℕ = λ x. coefficient_at x (record { integral = up; coefficient = c.mul.result }) in
    let further : Integral → ℕ = λ x. sum_to (length up.indices) (λ k. coefficient_at x (term_of up (lowered up.indices k) (product_of p multiplier (residue_at residues k)))) in
    let same : multiplier ≡ minus p (index_at seed.indices (c.args.place + 1)) =
    c.minus-multiplier.ensures.value ∙ ap (minus p) (index_read seed.indices c.indices.result.now c.args.place c.requires.seed c.requires.place c.indices.ensures.value) in
    on_ok_weaker c.push_lowered.result
    (λ later.
    Gains-same zeros c.args.terms.now.items c.push_lowered.new.terms.items (λ x. first x + further x) (denominator_sum p seed (length seed.indices) residues (c.args.place + 1))
    (denominator_sum-is p seed up multiplier c.mul.result residues c.args.place c.in_ok-raised.ensures same c.mul.ensures.value)
    (Gains-more zeros c.args.terms.now.items c.push_term.new.terms.items c.push_lowered.new.terms.items first further c.in_ok-push_term.ensures.gains later))
    c.push_lowered.ensures.gains
