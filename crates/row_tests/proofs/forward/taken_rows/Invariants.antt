use Rattle.std.proofs.Common.{All}
use Rattle.integral_index.specs.declared.Order.TheVariants.{Standard}
use Rattle.sector_forward.specs.Elimination.{IsTaken}
use Rattle.row_tests.proofs.forward.taken_rows.Given as goal

abbrev pub invariant-loop-terms : goal.invariant-loop-terms
invariant-loop-terms l = All (IsTaken l.modulus Standard l.unit) l.made.items
