-- Vectors of residues, and sums of products of their entries. The project's own names for what every
-- book on linear algebra has.
use Rattle.std.specs.Prelude.{◌≡◌, ℕ, ◌+◌, ◌*◌, ◌<◌, ◌==◌, if◌then◌else◌, List, [], ◌∷◌, length, map, slice_index, All}

-- n residues modulo p
pub record IsVector (p n : ℕ) (vector : List ℕ) : Type 0 where
  pub size : length vector ≡ n
  pub below : All (λ x. x < p) vector

-- the sum of the products of the entries in the same places
abbrev pub dot : List ℕ → List ℕ → ℕ
dot [] ys = 0
dot (x ∷ xs) [] = 0
dot (x ∷ xs) (y ∷ ys) = x * y + dot xs ys

-- the entries of the rows in the column at place x, counted from 0
abbrev pub column : ℕ → List (List ℕ) → List ℕ
column x rows = map (λ row. slice_index row x) rows

-- 1 where the places are equal, and else 0
abbrev pub unit_at : ℕ → ℕ → ℕ
unit_at j i = if i == j then 1 else 0

-- the first entry other than 0 is 1
pub record HasLeadingOne (vector : List ℕ) : Type 0 where
  pub place : ℕ
  pub one : slice_index vector place ≡ 1
  pub zeros : (i : ℕ) → i < place → slice_index vector i ≡ 0
