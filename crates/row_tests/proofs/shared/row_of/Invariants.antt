-- The row so far is one of residues.
use Rattle.integral_index.specs.declared.Order.TheVariants.{Standard}
use Rattle.sparse_row.specs.Row.{IsRow}
use Rattle.row_tests.proofs.shared.row_of.Given as goal

abbrev pub invariant-loop-indices : goal.invariant-loop-indices
invariant-loop-indices l = IsRow l.modulus Standard l.row
