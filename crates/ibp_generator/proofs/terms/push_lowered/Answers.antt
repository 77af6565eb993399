-- One place more.
use Rattle.std.proofs.Common.{◌≡◌, ℕ, ◌+◌, ◌∙◌, sym, ap, subst, arith}
use Rattle.integral_index.specs.Integral.{Integral}
use Rattle.field_word.specs.Residues.{product_of}
use Rattle.sparse_row.specs.Terms.{coefficient_at}
use Rattle.propagators.specs.Sums.{sum_to}
use Rattle.ibp_generator.specs.Shifts.{lowered}
use Rattle.ibp_generator.specs.Equation.{residue_at, term_of}
use Rattle.ibp_generator.specs.Collecting.{Gains}
use Rattle.ibp_generator.proofs.SumLemmas.{sum_to-more}
use Rattle.ibp_generator.proofs.TermLemmas.{Gains-more, Gains-same}
use Rattle.ibp_generator.proofs.terms.push_lowered.Goals as goal

pub loop-k-preserved : goal.loop-k-preserved
loop-k-preserved c =
    let r = c.args.raised.now in
    let zeros = c.args.zeros.now in
    let old = c.args.terms.now.items in
    let middle = c.loop-k.terms.items in
    let new = c.push_lowered_term.new.terms.items in
    let coefficient : ℕ → ℕ = λ k. product_of c.args.modulus.now c.args.multiplier (residue_at c.args.residues.now k) in
    let here : ℕ → Integral → ℕ = λ k x. coefficient_at x (term_of r (lowered r.indices k) (coefficient k)) in
    let k = c.loop-k.k in
    let step : Gains zeros middle new (here (k + 1)) =
    Gains-same zeros middle new (λ x. coefficient_at x (term_of r (lowered r.indices (k + 1)) c.mul-coefficient.result)) (here (k + 1))
    (λ x. ap (λ n. coefficient_at x (term_of r (lowered r.indices (k + 1)) n)) c.mul-coefficient.ensures.value)
    c.in_ok-push_lowered_term.ensures.gains in
    record {
      below = c.in_ok-push_lowered_term.ensures.below c.args.modulus.now c.mul-coefficient.ensures.below c.loop-k.invariant.below;
      gains = Gains-same zeros old new (λ x. sum_to k (λ j. here j x) + here (k + 1) x) (λ x. sum_to (k + 1) (λ j. here j x)) (λ x. sym (sum_to-more k (λ j. here j x)))
          (Gains-more zeros old middle new (λ x. sum_to k (λ j. here j x)) (here (k + 1)) c.loop-k.invariant.gains step);
    }
