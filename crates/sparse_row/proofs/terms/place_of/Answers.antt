use Rattle.std.proofs.Common.{◌+◌, ◌-◌, ◌/◌, ◌<◌, length, sym, ap, ◌∙◌, arith}
use Rattle.std.proofs.lemmas.List.{get_or_default}
use Rattle.integral_index.proofs.Orders.{compare-IsAntisymmetric}
use Rattle.sparse_row.proofs.TermLists.{above_up_to, under_from}
use Rattle.sparse_row.proofs.terms.place_of.Goals as goal

pub loop-low-preserved-in-Greater : goal.loop-low-preserved-in-Greater
loop-low-preserved-in-Greater c =
    let middle = c.loop-low.low + (c.loop-low.high - c.loop-low.low) / 2 in
    record {
      ordered = omega arith;
      within = omega arith;
      above = λ k d from below. above_up_to c.args.order c.args.terms.now c.args.x.now middle _ c.requires.descend (omega arith) (sym c.in-Greater.ensures) k d below;
      under = c.loop-low.invariant.under;
    }

pub returns-in-Equal-clause-found : goal.returns-in-Equal-clause-found
returns-in-Equal-clause-found c =
    let middle = c.loop-low.low + (c.loop-low.high - c.loop-low.low) / 2 in
    let within : middle < length c.args.terms.now = omega arith in
    let same = compare-IsAntisymmetric c.args.order _ _ (sym c.in-Equal.ensures) in
    (within, λ d. ap (λ t. t.integral) (get_or_default c.args.terms.now middle d _ within) ∙ same)

pub loop-low-preserved : goal.loop-low-preserved
loop-low-preserved c =
    let middle = c.loop-low.low + (c.loop-low.high - c.loop-low.low) / 2 in
    record {
      ordered = omega arith;
      within = omega arith;
      above = c.loop-low.invariant.above;
      under = λ k d from below. under_from c.args.order c.args.terms.now c.args.x.now middle _ c.requires.descend (omega arith) (sym c.in-Less.ensures) k d from below;
    }
