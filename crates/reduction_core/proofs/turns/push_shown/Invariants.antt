-- The rules so far whose pivots are shown stand behind what was there.
use Rattle.std.proofs.Common.{◌≡◌, ◌++◌, List, take, filter}
use Rattle.sparse_row.specs.Row.{Row}
use Rattle.sector_machine.specs.Tasks.{shows_pivot_of}
use Rattle.reduction_core.specs.Shown.{AreShownBy}
use Rattle.reduction_core.proofs.turns.push_shown.Given as goal

abbrev pub invariant-loop-rule : goal.invariant-loop-rule
invariant-loop-rule l = (rows : List Row) → AreShownBy l.order rows l.shown → l.below.items ≡ l.initial.below.items ++ filter (shows_pivot_of l.order rows) (take l.rule-index l.rules)
