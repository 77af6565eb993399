-- The rows so far show nothing new.
use Rattle.std.proofs.Common.{◌++◌}
use Rattle.sector_machine.specs.Machine.{back_rows}
use Rattle.reduction_core.specs.Slots.{state_of}
use Rattle.std.proofs.Common.{All, take}
use Rattle.reduction_core.specs.Acceptance.{ShowsOnly}
use Rattle.reduction_core.proofs.accepting.show_only_known.Given as goal

abbrev pub invariant-loop-row : goal.invariant-loop-row
invariant-loop-row l = All (ShowsOnly (l.forward ++ back_rows (state_of l.slots))) (take l.row-index l.rows)
