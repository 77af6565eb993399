-- The units are those of what the rows show.
use Rattle.std.proofs.Common.{Contains, sym, subst}
use Rattle.reduction_core.proofs.listed.ListedRows.show_unit.Goals as goal

pub returns : goal.returns
returns c =
    let are = c.self.invariant in
    let units = c.self.inside.units.items in
    rw (← c.self.view_is) (
      λ test. are.only c.args.unit (subst (λ us. Contains us c.args.unit) c.deref.ensures.value (c.is_listed.ensures.0 test)),
      λ shown. c.is_listed.ensures.1 (subst (λ us. Contains us c.args.unit) (sym c.deref.ensures.value) (subst (Contains units) shown.2 (are.all shown.0 shown.1))),
    )
