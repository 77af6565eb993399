-- The back rows of the units so far whose pivots are shown.
use Rattle.std.proofs.Common.{◌≡◌, take, filter, flat_map}
use Rattle.sector_machine.specs.Tasks.{shows_pivot_of}
use Rattle.reduction_core.specs.Slots.{back_of}
use Rattle.reduction_core.proofs.SlotLemmas.{part_rows}
use Rattle.reduction_core.proofs.turns.below.Given as goal

abbrev pub invariant-loop-slot : goal.invariant-loop-slot
invariant-loop-slot l = l.below.items ≡ filter (shows_pivot_of l.order l.rows) (flat_map (part_rows back_of) (take l.slot-index l.slots))
