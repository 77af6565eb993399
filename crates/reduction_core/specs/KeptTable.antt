-- How a table is kept: as it is seen, and in echelon form.
use Rattle.std.specs.Prelude.{ℕ, List}
use Rattle.field_word.specs.Residues.{IsModulus}
use Rattle.integral_index.specs.declared.Order.{Order}
use Rattle.sparse_row.specs.Row.{Row}
use Rattle.sparse_row.specs.ReducedList.{IsEchelon}
use Rattle.reduction_core.specs.declared.table.Table.TheInside.{Inside}
use Rattle.reduction_core.specs.Table.{Table}

abbrev pub shown : Inside → Table
shown a = record { modulus = a.modulus; order = a.order; rows = a.rows.items }

-- the rows are an echelon form modulo an odd number from 3 on
pub record IsTable (p : ℕ) (order : Order) (rows : List Row) : Type 0 where
  pub modulus : IsModulus p
  pub echelon : IsEchelon p order rows

abbrev pub IsKept : Inside → Type 0
IsKept a = IsTable a.modulus a.order a.rows.items
