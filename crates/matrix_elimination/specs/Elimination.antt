-- The result of Gauss-Jordan elimination with its multipliers kept. Rows and columns are counted from 0.
-- Source: linear algebra's reduced row echelon form, with pivots that are last in their rows; the
-- statement is the project's own.
use Rattle.std.specs.Prelude.{◌≡◌, ◌≢◌, ℕ, ◌+◌, ◌%◌, ◌<◌, List, [], length, map, slice_index, All, Option, Some, None, is_some, count_by}
use Rattle.std.specs.List.{slice_index_or}
use Rattle.matrix_elimination.specs.declared.elimination.Solved.{Solved}
use Rattle.matrix_elimination.specs.declared.elimination.Eliminated.{Eliminated}
use Rattle.matrix_elimination.specs.Vectors.{IsVector, HasLeadingOne, dot, column, unit_at}

-- the entry in a column, and the multiplier of a row, of what a column has; 0 where it is open
abbrev pub entry_at : ℕ → Option Solved → ℕ
entry_at x None = 0
entry_at x (Some sum) = slice_index sum.entries x

abbrev pub multiplier_at : ℕ → Option Solved → ℕ
multiplier_at i None = 0
multiplier_at i (Some sum) = slice_index sum.multipliers i

-- the entries in one column, and the multipliers of one row, of what each column has
abbrev pub entries_at : ℕ → List (Option Solved) → List ℕ
entries_at x solved = map (λ s. entry_at x s) solved

abbrev pub multipliers_at : ℕ → List (Option Solved) → List ℕ
multipliers_at i solved = map (λ s. multiplier_at i s) solved

-- the column has a sum
abbrev pub HasSum : List (Option Solved) → ℕ → Solved → Type 0
HasSum solved c sum = slice_index_or solved c None ≡ Some sum

-- The sum is that of the rows by its multipliers. It has 1 in its column c, 0 in every other column that
-- has a sum, and 0 in all columns behind c.
pub record IsSolved (p width : ℕ) (rows : List (List ℕ)) (solved : List (Option Solved)) (c : ℕ) (sum : Solved) : Type 0 where
  pub entries : IsVector p width sum.entries
  pub multipliers : IsVector p (length rows) sum.multipliers
  pub is_sum : (x : ℕ) → slice_index sum.entries x ≡ dot sum.multipliers (column x rows) % p
  pub one : slice_index sum.entries c ≡ 1
  pub apart : (d : ℕ) (other : Solved) → HasSum solved d other → d ≢ c → slice_index sum.entries d ≡ 0
  pub last : (x : ℕ) → c < x → slice_index sum.entries x ≡ 0

-- Under these multipliers the rows cancel. The first multiplier other than 0 is 1, so they aren't all 0.
pub record IsCancelled (p : ℕ) (rows : List (List ℕ)) (multipliers : List ℕ) : Type 0 where
  pub vector : IsVector p (length rows) multipliers
  pub cancels : (x : ℕ) → dot multipliers (column x rows) % p ≡ 0
  pub leads : HasLeadingOne multipliers

-- The row at place j alone is a sum of the multipliers of the solved columns, each as often as the row has
-- its column, and of the cancelled multipliers, by some weights.
pub record IsBacked (p : ℕ) (rows : List (List ℕ)) (e : Eliminated) (j : ℕ) : Type 0 where
  pub weights : List ℕ
  pub size : length weights ≡ length e.cancelled.items
  pub is : (i : ℕ) → i < length rows → unit_at j i ≡ (dot (slice_index_or rows j []) (multipliers_at i e.solved.items) + dot weights (column i e.cancelled.items)) % p

-- The elimination of the rows of a matrix, each of this width: the rows and what is solved have the same
-- span, and so have the multipliers of what is found and those of the single rows.
pub record IsElimination (p width : ℕ) (rows : List (List ℕ)) (e : Eliminated) : Type 0 where
  pub columns : length e.solved.items ≡ width
  pub counted : count_by is_some e.solved.items + length e.cancelled.items ≡ length rows
  pub solved : (c : ℕ) (sum : Solved) → HasSum e.solved.items c sum → IsSolved p width rows e.solved.items c sum
  pub cancelled : All (IsCancelled p rows) e.cancelled.items
  -- every row is the sum of what is solved, each as often as the row has its column
  pub spans : All (λ row. (x : ℕ) → slice_index row x ≡ dot row (entries_at x e.solved.items) % p) rows
  pub backed : (j : ℕ) → j < length rows → IsBacked p rows e j
