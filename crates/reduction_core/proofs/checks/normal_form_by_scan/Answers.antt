-- The three cases of the definition.
use Rattle.std.proofs.Common.{◌≡◌, ◌∙◌, sym, ap, false, true, arith}
use Rattle.std.proofs.lemmas.Result.{IfOk-weaker}
use Rattle.integral_index.specs.Integral.{sector_of}
use Rattle.integral_index.specs.ZeroSectors.{is_zero_sector}
use Rattle.sparse_row.specs.Row.{IsPivot}
use Rattle.reduction_core.specs.NormalForm.{normal_form, solved, unit_row}
use Rattle.reduction_core.proofs.TableRows.{empty_made, form_of_zero}
use Rattle.reduction_core.proofs.CheckLemmas.{untrue, scan_more, scan_found, scan_missed, form_of_scan, form_of_none}
use Rattle.reduction_core.proofs.checks.normal_form_by_scan.Goals as goal

pub returns-then-is_zero : goal.returns-then-is_zero
returns-then-is_zero c =
    let p = c.args.modulus.now in
    let zero_sector : is_zero_sector c.args.zeros.now (sector_of c.args.x.now.indices) ≡ true = sym (c.if-is_zero.ensures ∙ ap (λ u. is_zero_sector c.args.zeros.now u.sector) c.unit.ensures) in
    empty_made p c.args.order c.new.result c.requires.modulus (c.new.ensures.row p (omega (arith, c.requires.modulus))) c.new.ensures.empty ∙ sym (form_of_zero p c.args.order c.args.zeros.now c.args.rows.now c.args.x.now zero_sector)

pub returns-then-is_pivot : goal.returns-then-is_pivot
returns-then-is_pivot c =
    let p = c.args.modulus.now in
    let rule = c.row-item.result in
    let nonzero : is_zero_sector c.args.zeros.now (sector_of c.args.x.now.indices) ≡ false = sym (c.if-is_zero.ensures ∙ ap (λ u. is_zero_sector c.args.zeros.now u.sector) c.unit.ensures) in
    let found = scan_found p c.args.order c.args.rows.now c.args.x.now c.loop-row.row-index rule c.requires.rows c.loop-row-test.true c.row-item.is c.loop-row.invariant (c.is_pivot.ensures.0 c.if-is_pivot.true) in
    IfOk-weaker c.solved.result (λ row. row ≡ solved p rule c.args.x.now) (λ row. row ≡ normal_form p c.args.order c.args.zeros.now c.args.rows.now c.args.x.now)
    (λ row e. e ∙ sym (form_of_scan p c.args.order c.args.zeros.now c.args.rows.now c.args.x.now rule nonzero found)) c.solved.ensures.value

pub loop-row-preserved : goal.loop-row-preserved
loop-row-preserved c =
    scan_more c.args.modulus.now c.args.order c.args.rows.now c.args.x.now c.loop-row.row-index c.row-item.result c.loop-row-test.true c.row-item.is c.loop-row.invariant (untrue c.is_pivot.result (IsPivot c.args.order c.row-item.result c.args.x.now) c.if-is_pivot.false c.is_pivot.ensures)

pub returns : goal.returns
returns c =
    let p = c.args.modulus.now in
    let nonzero : is_zero_sector c.args.zeros.now (sector_of c.args.x.now.indices) ≡ false = sym (c.if-is_zero.ensures ∙ ap (λ u. is_zero_sector c.args.zeros.now u.sector) c.unit.ensures) in
    let missing = scan_missed c.args.order c.args.rows.now c.args.x.now c.loop-row.row-index c.loop-row-test.false c.loop-row.auto.row-index-end c.loop-row.invariant in
    IfOk-weaker c.unit_row.result (λ row. row ≡ unit_row c.args.order c.args.x.now) (λ row. row ≡ normal_form p c.args.order c.args.zeros.now c.args.rows.now c.args.x.now)
    (λ row e. e ∙ sym (form_of_none p c.args.order c.args.zeros.now c.args.rows.now c.args.x.now nonzero missing)) c.unit_row.ensures.value
