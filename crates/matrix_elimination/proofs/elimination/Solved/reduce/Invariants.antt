use Rattle.std.proofs.Common.{length, take}
use Rattle.matrix_elimination.specs.Steps.{IsSum, IsRest}
use Rattle.matrix_elimination.proofs.elimination.Solved.reduce.Given as goal

abbrev pub invariant-loop-column : goal.invariant-loop-column
invariant-loop-column l =
    IsSum l.modulus (length l.solved) (length l.initial.self.multipliers) l.self × IsRest l.modulus (take l.column l.row) l.solved l.initial.self l.self
