-- The row of a sum of terms, some of which may be of one integral: how an equation is written down before its terms are collected.
use Rattle.std.specs.Prelude.{ℕ, ◌+◌, ◌%◌, ◌==◌, if◌then◌else◌, List, fold}
use Rattle.std.specs.FinMap as map
use Rattle.integral_index.specs.declared.Order.{Order}
use Rattle.integral_index.specs.Integral.{Integral}
use Rattle.sparse_row.specs.Row.{Row, coefficient}

-- the row that shows nothing
abbrev pub empty_row : Order → Row
empty_row order = record { order = order; terms = map.empty }

-- the row with this coefficient of x; where it is 0, x isn't shown
abbrev pub with_coefficient : Row → Integral → ℕ → Row
with_coefficient row x c = record { order = row.order; terms = if c == 0 then map.remove row.terms x else map.insert row.terms x c }

-- the row with one term added, modulo p
abbrev pub with_term : ℕ → Row → Integral × ℕ → Row
with_term p row term = with_coefficient row term.0 ((coefficient row term.0 + term.1) % p)

-- the sum of the terms, modulo p
abbrev pub sum_row : ℕ → Order → List (Integral × ℕ) → Row
sum_row p order terms = fold (with_term p) (empty_row order) terms
