-- One row more.
use Rattle.std.proofs.Common.{subst}
use Rattle.std.specs.List.{AllZip}
use Rattle.std.proofs.lemmas.List.{take_all}
use Rattle.std.proofs.lemmas.List.Elements.{all_zip_more}
use Rattle.back_substitute.specs.Steps.{IsSubstituted}
use Rattle.back_substitute.proofs.rows.substituted_rows.Goals as goal

pub loop-row-preserved : goal.loop-row-preserved
loop-row-preserved c =
    rw c.in_ok-push.ensures.items
    (all_zip_more (IsSubstituted c.args.modulus.now c.args.order c.args.below.now) c.args.rows.now c.loop-row.made.items c.loop-row.row-index c.row-item.result c.in_ok-cleared.cleared c.loop-row-test.true c.row-item.is c.loop-row.invariant c.in_ok-cleared.ensures)

pub returns : goal.returns
returns c =
    subst (λ rows. AllZip (IsSubstituted c.args.modulus.now c.args.order c.args.below.now) rows c.loop-row.made.items) (take_all c.loop-row.row-index c.args.rows.now c.loop-row-test.false) c.loop-row.invariant
