-- What the slow checks answer: a definition, with the multipliers handed in.
use Rattle.std.specs.Prelude.{◌≡◌, ℕ, ◌%◌, ◌<◌, List, [], length, map, slice_index, slice_index_or, All}
use Rattle.integral_index.specs.declared.Order.{Order}
use Rattle.integral_index.specs.Integral.{Integral}
use Rattle.sparse_row.specs.Row.{Row, coefficient, IsPivot}
use Rattle.sparse_row.specs.Span.{combination}
use Rattle.sparse_row.specs.ReducedList.{Ascend, IsEchelon}

-- one residue for each row
pub record IsMultiplierList (p : ℕ) (rows : List Row) (multipliers : List ℕ) : Type 0 where
  pub len : length multipliers ≡ length rows
  pub below : All (λ m. m < p) multipliers

-- the row is the sum of the multiples of the rows by these numbers, modulo p
abbrev pub IsSum : ℕ → List Row → List ℕ → Row → Type 0
IsSum p rows multipliers row = (x : Integral) → coefficient row x ≡ combination (λ k. slice_index multipliers k) (map coefficient rows) x % p

-- each of the sums is that of the multiples by the list at its place
abbrev pub AreSums : ℕ → List Row → List (List ℕ) → List Row → Type 0
AreSums p rows multipliers sums = (k : ℕ) (d : Row) → k < length sums → IsSum p rows (slice_index_or multipliers k []) (slice_index_or sums k d)

-- the table is the reduced list of the equations, and the multipliers show it: by the lists of `down` each row of the
-- table is a sum of equations, and by those of `up` each equation is a sum of the table's rows
pub record IsShownReduced (p : ℕ) (order : Order) (equations table : List Row) (down up : List (List ℕ)) : Type 0 where
  pub echelon : IsEchelon p order table
  pub spanned : AreSums p equations down table
  pub spans : AreSums p table up equations

-- the pivot of the row is less than that of the other, which doesn't show it
pub record StandsBelow (order : Order) (row other : Row) : Type 0 where
  pub less : Ascend order row other
  pub clear : (x : Integral) → IsPivot order row x → coefficient other x ≡ 0

-- the row at a place stands below all that follow
abbrev pub StandsAt : Order → List Row → ℕ → Type 0
StandsAt order table place = (k : ℕ) (d : Row) → place < k → k < length table → StandsBelow order (slice_index_or table place d) (slice_index_or table k d)
