-- The board stands after some events, and each step gave a unit its forward rows.
use Rattle.std.proofs.Common.{List}
use Rattle.sparse_row.specs.Row.{Row}
use Rattle.sector_machine.specs.Invariant.{HoldsOfRows}
use Rattle.kira_app.proofs.Runs.{HasAdvanced, left}
use Rattle.kira_app.proofs.run.run_alone.Given as goal

abbrev pub invariant-loop-task : goal.invariant-loop-task
invariant-loop-task g l =
    HasAdvanced l.initial.board l.initial.steps l.board l.steps × ((equations : List Row) × HoldsOfRows l.board.modulus l.board.order equations l.board.state)

abbrev pub decreases-loop-task : goal.decreases-loop-task
decreases-loop-task g l = left l.board.state
