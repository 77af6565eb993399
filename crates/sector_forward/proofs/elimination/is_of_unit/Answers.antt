-- A row has one pivot.
use Rattle.std.proofs.Common.{◌≡◌, IsTrue, ap, sym, subst, ◌∙◌}
use Rattle.integral_index.specs.Order.{unit_of}
use Rattle.sparse_row.specs.Row.{IsGreatest}
use Rattle.sparse_row.proofs.RowValues.{greatest_same}
use Rattle.sector_forward.proofs.Units.{same_unit, equal_units}
use Rattle.sector_forward.proofs.elimination.is_of_unit.Goals as goal

pub returns : goal.returns
returns c =
    λ x pivot.
    let own : c.in-Some.pivot.now ≡ x =
    greatest_same c.args.order c.args.row.now c.in-Some.pivot.now x (subst (λ o. IsGreatest o c.args.row.now c.in-Some.pivot.now) c.requires.ordered c.in-Some.ensures) pivot.is_greatest in
    let unit : c.unit.result ≡ unit_of x = c.unit.ensures ∙ ap unit_of own in (
      λ yes. sym unit ∙ same_unit c.unit.result c.args.unit (subst IsTrue c.eq.ensures yes),
      λ e. subst IsTrue (sym c.eq.ensures) (equal_units c.unit.result c.args.unit (unit ∙ e)),
    )
