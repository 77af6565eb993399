-- The rows so far are rows of residues.
use Rattle.std.proofs.Common.{All}
use Rattle.integral_index.specs.declared.Order.TheVariants.{Standard}
use Rattle.sparse_row.specs.Row.{IsRow}
use Rattle.row_tests.proofs.shared.rows_of.Given as goal

abbrev pub invariant-loop-terms : goal.invariant-loop-terms
invariant-loop-terms l = All (IsRow l.modulus Standard) l.made.items
