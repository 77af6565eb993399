-- One denominator more.
use Rattle.std.proofs.Common.{◌≡◌, ◌≤◌, ◌<◌, ◌+◌, ℕ, suc, List, length, sym, ap, subst, ◌∙◌, arith}
use Rattle.std.specs.Prelude.{All}
use Rattle.std.proofs.lemmas.List.{length-map}
use Rattle.ibp_generator.specs.Equation.{denominator_sum}
use Rattle.ibp_generator.specs.Collecting.{Gains}
use Rattle.ibp_generator.proofs.EquationLemmas.{AreAppended-more, AreAppended-none}
use Rattle.ibp_generator.proofs.equations.push_denominators.Goals as goal

pub loop-place-init : goal.loop-place-init
loop-place-init c = record { below = c.requires.below; appended = AreAppended-none c.args.basis.now c.args.loop_number c.args.momentum_number c.args.seed.now c.args.zeros.now c.args.terms.now.items }

pub push_denominator-requires : goal.push_denominator-requires
push_denominator-requires c =
    let derivative = c.derivative-residues.ensures.is in
    let size = derivative.is.vector.size in
    record {
      place = omega (arith, c.loop-place-test.true, c.width-place-end.ensures.value, c.requires.width);
      residues = size ∙ ap suc (length-map c.args.basis.now.denominators _) ∙ (let same : suc (length c.args.basis.now.denominators) ≡ length c.args.seed.now.indices + 1 = omega (arith, c.requires.width) in same);
      below_p = subst (λ p. All (λ r. r < p) c.derivative-residues.result.now) c.requires.modulus derivative.is.vector.below;
      seed = c.requires.seed;
      below = c.loop-place.invariant.below;
    }

pub loop-place-preserved : goal.loop-place-preserved
loop-place-preserved c =
    let seed = c.args.seed.now in
    let residues = c.derivative-residues.result.now in
    let gains : Gains c.args.zeros.now c.loop-place.terms.items c.push_denominator.new.terms.items (denominator_sum c.args.basis.now.point.modulus seed (length c.args.basis.now.denominators) residues (c.loop-place.place + 1)) =
    subst (λ p. Gains c.args.zeros.now c.loop-place.terms.items c.push_denominator.new.terms.items (denominator_sum p seed (length c.args.basis.now.denominators) residues (c.loop-place.place + 1))) (sym c.requires.modulus)
    (subst (λ n. Gains c.args.zeros.now c.loop-place.terms.items c.push_denominator.new.terms.items (denominator_sum c.args.modulus.now seed n residues (c.loop-place.place + 1))) c.requires.width c.in_ok-push_denominator.ensures.gains) in
    record {
      below = c.in_ok-push_denominator.ensures.below;
      appended = AreAppended-more c.args.basis.now c.args.loop_number c.args.momentum_number seed c.args.zeros.now c.loop-place.place c.args.terms.now.items c.loop-place.terms.items c.push_denominator.new.terms.items
          residues c.loop-place.invariant.appended c.derivative-residues.ensures.is c.derivative-residues.ensures.only gains;
    }
