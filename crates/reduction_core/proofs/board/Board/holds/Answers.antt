-- It is what the type keeps.
use Rattle.reduction_core.proofs.board.Board.holds.Goals as goal

pub returns : goal.returns
returns c = rw (← c.self.view_is) ((c.self.invariant).equations, (c.self.invariant).holds)
