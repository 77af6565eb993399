-- Waiting rows are grouped by the units of their greatest integrals.
use Rattle.std.proofs.Common.{Contains, subst}
use Rattle.sector_machine.specs.State.{rows_at}
use Rattle.sector_machine.proofs.Greatest.{HasGreatestIn-from_test, test-from_HasGreatestIn}
use Rattle.sector_machine.proofs.Rows.{waiting_taken, one_unit}
use Rattle.sector_machine.proofs.laws.taken_rows_show_the_unit.Goals as goal

pub returns-clause-taken : goal.returns-clause-taken
returns-clause-taken c p order equations unit state row holds may = (
  λ member. let top = (waiting_taken p order equations state holds unit row member).greatest in ((unit, member), (top.0, (top.1).shown, top.2)),
  λ ((other, member), (x, shows, of_unit)).
      let same = one_unit order row other unit (waiting_taken p order equations state holds other row member).greatest (may.alone row x (other, member) shows of_unit) in
      subst (λ u. Contains (rows_at state.waiting u) row) same member,
)

pub returns-clause-grouped : goal.returns-clause-grouped
returns-clause-grouped c p order unit row is = (HasGreatestIn-from_test p order unit row is, test-from_HasGreatestIn p order unit row is)
