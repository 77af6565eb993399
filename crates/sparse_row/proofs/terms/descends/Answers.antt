use Rattle.std.proofs.Common.{subst, refl, arith}
use Rattle.std.specs.Prelude.{AllPairs}
use Rattle.std.proofs.lemmas.Bool.{false≢true}
use Rattle.std.proofs.lemmas.List.{take_all}
use Rattle.sparse_row.specs.Terms.{IsAbove}
use Rattle.sparse_row.proofs.TermLists.{above_next, pairs_more}
use Rattle.sparse_row.proofs.terms.descends.Goals as goal

pub returns-then-not-is_above : goal.returns-then-not-is_above
returns-then-not-is_above c = (
  λ yes. absurd (false≢true yes),
  λ pairs. c.if-not-is_above.ensures.1 (above_next c.args.order c.args.terms.now c.loop-i.i _ _ (omega arith) c.loop-i-test.true c.index-terms-i.is c.index-terms-i-in-loop-i.is pairs),
)

pub loop-i-preserved : goal.loop-i-preserved
loop-i-preserved c =
    pairs_more c.args.order c.args.terms.now c.loop-i.i _ _ (omega arith) c.loop-i-test.true c.index-terms-i.is c.index-terms-i-in-loop-i.is (c.if-not-is_above.ensures.0 refl) c.loop-i.invariant

pub returns : goal.returns
returns c =
    (λ _. subst (AllPairs (IsAbove c.args.order)) (take_all c.loop-i.i c.args.terms.now (omega arith)) c.loop-i.invariant, λ _. refl)
