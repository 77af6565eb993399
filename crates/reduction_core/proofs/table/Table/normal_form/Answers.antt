-- The three cases of the definition.
use Rattle.std.proofs.Common.{◌<◌, ◌≡◌, ◌∙◌, sym, ap, subst, arith, false, true, length}
use Rattle.std.proofs.lemmas.Result.{IfOk-weaker}
use Rattle.integral_index.specs.Integral.{sector_of}
use Rattle.integral_index.specs.ZeroSectors.{is_zero_sector}
use Rattle.reduction_core.specs.NormalForm.{normal_form, solved, unit_row}
use Rattle.sector_forward.specs.Steps.{IsPivotAt, IsPlaceFor}
use Rattle.sector_forward.proofs.Backing.{IsStairs-from_echelon}
use Rattle.reduction_core.proofs.TableRows.{empty_made, form_of_zero, form_of_pivot, form_of_other}
use Rattle.reduction_core.proofs.table.Table.normal_form.Goals as goal

pub returns-then-is_zero-clause-value : goal.returns-then-is_zero-clause-value
returns-then-is_zero-clause-value c =
    let t = c.self.inside in
    let large : 1 < t.modulus = omega (arith, c.self.invariant.modulus.from_3) in
    let zero_sector : is_zero_sector c.args.zeros.now (sector_of c.args.x.now.indices) ≡ true = sym (c.if-is_zero.ensures ∙ ap (λ u. is_zero_sector c.args.zeros.now u.sector) c.unit.ensures) in
    rw (← c.self.view_is)
    (empty_made t.modulus t.order c.new.result large (c.new.ensures.row t.modulus (omega arith)) c.new.ensures.empty ∙ sym (form_of_zero t.modulus t.order c.args.zeros.now t.rows.items c.args.x.now zero_sector))

pub returns-then-is_zero-clause-row : goal.returns-then-is_zero-clause-row
returns-then-is_zero-clause-row c =
    let t = c.self.inside in
    rw (← c.self.view_is) (c.new.ensures.row t.modulus (omega (arith, c.self.invariant.modulus.from_3)))

pub place_of_pivot-requires : goal.place_of_pivot-requires
place_of_pivot-requires c =
    let t = c.self.inside in
    record { stairs = (t.modulus, rw c.deref.ensures.value (IsStairs-from_echelon t.modulus t.order t.rows.items c.self.invariant.echelon)) }

pub returns-in-Ok-clause-value : goal.returns-in-Ok-clause-value
returns-in-Ok-clause-value c =
    let t = c.self.inside in
    let rule = c.index.result.now in
    let nonzero : is_zero_sector c.args.zeros.now (sector_of c.args.x.now.indices) ≡ false = sym (c.if-is_zero.ensures ∙ ap (λ u. is_zero_sector c.args.zeros.now u.sector) c.unit.ensures) in
    let found : (c.in-Ok.place < length t.rows.items) × IsPivotAt t.order t.rows.items c.in-Ok.place c.args.x.now =
    subst (λ rows. (c.in-Ok.place < length rows) × IsPivotAt t.order rows c.in-Ok.place c.args.x.now) c.deref.ensures.value c.in-Ok.ensures in
    rw (← c.self.view_is)
    (IfOk-weaker c.solved.result (λ row. row ≡ solved t.modulus rule c.args.x.now) (λ row. row ≡ normal_form t.modulus t.order c.args.zeros.now t.rows.items c.args.x.now)
    (λ row e. e ∙ sym (form_of_pivot t.modulus t.order c.args.zeros.now t.rows.items c.args.x.now c.in-Ok.place rule nonzero c.self.invariant.echelon found.0 found.1 c.index.ensures)) c.solved.ensures.value)

pub returns-in-Err-clause-value : goal.returns-in-Err-clause-value
returns-in-Err-clause-value c =
    let t = c.self.inside in
    let nonzero : is_zero_sector c.args.zeros.now (sector_of c.args.x.now.indices) ≡ false = sym (c.if-is_zero.ensures ∙ ap (λ u. is_zero_sector c.args.zeros.now u.sector) c.unit.ensures) in
    let free = subst (λ rows. IsPlaceFor t.order rows c.args.x.now c.in-Err.field-0) c.deref.ensures.value c.in-Err.ensures in
    rw (← c.self.view_is)
    (IfOk-weaker c.unit_row.result (λ row. row ≡ unit_row t.order c.args.x.now) (λ row. row ≡ normal_form t.modulus t.order c.args.zeros.now t.rows.items c.args.x.now)
    (λ row e. e ∙ sym (form_of_other t.modulus t.order c.args.zeros.now t.rows.items c.args.x.now c.in-Err.field-0 nonzero free)) c.unit_row.ensures.value)
