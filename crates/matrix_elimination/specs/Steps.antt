-- The steps of an elimination, which takes the rows from the last to the first.
use Rattle.std.specs.Prelude.{◌≡◌, ◌≢◌, ℕ, ◌+◌, ◌%◌, ◌<◌, ◌≤◌, List, [], length, slice_index, All, Option, Some, None, is_some, count_by}
use Rattle.std.specs.List.{slice_index_or}
use Rattle.field_word.specs.Residues.{sum_of, product_of, opposite_of, IsInverse}
use Rattle.matrix_elimination.specs.declared.elimination.Solved.{Solved}
use Rattle.matrix_elimination.specs.declared.elimination.Eliminated.{Eliminated}
use Rattle.matrix_elimination.specs.Vectors.{IsVector, dot}
use Rattle.matrix_elimination.specs.Elimination.{entries_at, multipliers_at, HasSum, IsSolved, IsCancelled, IsBacked}

-- the vector with a multiple of another added, of the same length
pub record IsWithMultiple (p factor : ℕ) (old other new : List ℕ) : Type 0 where
  pub vector : IsVector p (length old) new
  pub is : (k : ℕ) → slice_index new k ≡ sum_of p (slice_index old k) (product_of p factor (slice_index other k))

-- the vector with all entries multiplied
pub record IsMultiple (p factor : ℕ) (old new : List ℕ) : Type 0 where
  pub vector : IsVector p (length old) new
  pub is : (k : ℕ) → slice_index new k ≡ product_of p factor (slice_index old k)

-- a sum of this many columns and rows
pub record IsSum (p width height : ℕ) (sum : Solved) : Type 0 where
  pub entries : IsVector p width sum.entries
  pub multipliers : IsVector p height sum.multipliers

-- the sums that the columns have
abbrev pub AreSums : ℕ → ℕ → ℕ → List (Option Solved) → Type 0
AreSums p width height solved = (c : ℕ) (sum : Solved) → HasSum solved c sum → IsSum p width height sum

-- what a column has after the pivot was subtracted, as often as its entry in the pivot's column says
abbrev pub IsCleared : ℕ → ℕ → Solved → Option Solved → Option Solved → Type 0
IsCleared p column pivot None after = after ≡ None
IsCleared p column pivot (Some old) after =
    (new : Solved) × (after ≡ Some new)
    × IsWithMultiple p (opposite_of p (slice_index old.entries column)) old.entries pivot.entries new.entries
    × IsWithMultiple p (opposite_of p (slice_index old.entries column)) old.multipliers pivot.multipliers new.multipliers

-- A row's sum without what is solved, each as often as the row has its column.
pub record IsRest (p : ℕ) (row : List ℕ) (solved : List (Option Solved)) (old new : Solved) : Type 0 where
  pub entries : (x : ℕ) → (slice_index new.entries x + dot row (entries_at x solved)) % p ≡ slice_index old.entries x
  pub multipliers : (i : ℕ) → (slice_index new.multipliers i + dot row (multipliers_at i solved)) % p ≡ slice_index old.multipliers i

-- A column was open and has the sum now, scaled to 1 there; it is cleared in every other column's sum.
pub record Solves (p column : ℕ) (sum : Solved) (old new : List (Option Solved)) : Type 0 where
  pub columns : length new ≡ length old
  pub factor : ℕ
  pub inverse : IsInverse p (slice_index sum.entries column) factor
  pub pivot : Solved
  pub is_pivot : HasSum new column pivot
  pub entries : IsMultiple p factor sum.entries pivot.entries
  pub multipliers : IsMultiple p factor sum.multipliers pivot.multipliers
  pub cleared : (c : ℕ) → c ≢ column → IsCleared p column pivot (slice_index_or old c None) (slice_index_or new c None)

-- The elimination of the rows from place k on, which has not looked at the rows before it.
pub record IsPartial (p width : ℕ) (rows : List (List ℕ)) (k : ℕ) (e : Eliminated) : Type 0 where
  pub columns : length e.solved.items ≡ width
  pub counted : count_by is_some e.solved.items + length e.cancelled.items + k ≡ length rows
  pub solved : (c : ℕ) (sum : Solved) → HasSum e.solved.items c sum → IsSolved p width rows e.solved.items c sum
  pub untaken : (c : ℕ) (sum : Solved) → HasSum e.solved.items c sum → (i : ℕ) → i < k → slice_index sum.multipliers i ≡ 0
  pub cancelled : All (IsCancelled p rows) e.cancelled.items
  pub spans : (j : ℕ) → k ≤ j → j < length rows → (x : ℕ) → slice_index (slice_index_or rows j []) x ≡ dot (slice_index_or rows j []) (entries_at x e.solved.items) % p
  pub backed : (j : ℕ) → k ≤ j → j < length rows → IsBacked p rows e j
