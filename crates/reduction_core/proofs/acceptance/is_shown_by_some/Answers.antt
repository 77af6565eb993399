-- The first row that shows the integral settles the answer.
use Rattle.std.proofs.Common.{◌≡◌, ◌∙◌, sym}
use Rattle.sparse_row.specs.Row.{coefficient, Shows}
use Rattle.sector_forward.specs.Elimination.{IsShownBySome}
use Rattle.reduction_core.proofs.CheckLemmas.{never, always, all_of_front_more}
use Rattle.reduction_core.proofs.RowTests.{some_found, none_found}
use Rattle.reduction_core.proofs.acceptance.is_shown_by_some.Goals as goal

pub returns-then-coefficient-ne0 : goal.returns-then-coefficient-ne0
returns-then-coefficient-ne0 c =
    always (IsShownBySome c.args.rows.now c.args.x.now)
    (some_found (λ row. Shows row c.args.x.now) c.args.rows.now c.loop-row.row-index c.row-item.result c.loop-row-test.true c.row-item.is (λ e. c.if-coefficient-ne0.true (c.coefficient.ensures ∙ e)))

pub loop-row-preserved : goal.loop-row-preserved
loop-row-preserved c =
    all_of_front_more (λ row. coefficient row c.args.x.now ≡ 0) c.args.rows.now c.loop-row.row-index c.row-item.result c.loop-row-test.true c.row-item.is c.loop-row.invariant (sym c.coefficient.ensures ∙ c.if-coefficient-ne0.false)

pub returns : goal.returns
returns c =
    never (IsShownBySome c.args.rows.now c.args.x.now)
    (none_found (λ row. Shows row c.args.x.now) c.args.rows.now c.loop-row.row-index c.loop-row-test.false c.loop-row.auto.row-index-end (λ k d h shows. shows (c.loop-row.invariant k d h)))
