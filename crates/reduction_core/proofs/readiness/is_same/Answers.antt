-- Units are the same where their fields are.
use Rattle.std.proofs.Common.{IsTrue, sym, subst}
use Rattle.sector_forward.proofs.Units.{same_unit, equal_units}
use Rattle.reduction_core.proofs.readiness.is_same.Goals as goal

pub returns : goal.returns
returns c =
    (λ yes. same_unit c.args.unit c.args.other (subst IsTrue c.eq.ensures yes), λ e. subst IsTrue (sym c.eq.ensures) (equal_units c.args.unit c.args.other e))
