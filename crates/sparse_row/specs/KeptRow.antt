-- How a row is kept: its order, and its terms from the greatest integral to the least.
use Rattle.sparse_row.specs.declared.Row.TheInside.{Inside}
use Rattle.sparse_row.specs.Row.{Row}
use Rattle.sparse_row.specs.Terms.{IsTermList, row_of}

-- the row that is kept
abbrev pub shown : Inside → Row
shown a = row_of a.order a.terms.items

abbrev pub IsKept : Inside → Type 0
IsKept a = IsTermList a.order a.terms.items
