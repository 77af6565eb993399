-- The rows that are sums of multiples of given rows.
use Rattle.std.specs.Prelude.{◌≡◌, ℕ, ◌+◌, ◌*◌, ◌%◌, suc, List, [], ◌∷◌, map, All}
use Rattle.integral_index.specs.Integral.{Integral}
use Rattle.sparse_row.specs.Row.{Row, coefficient}

-- at x, the sum of the multiples of functions: the one at place k of the list is taken `multiplier k` times
abbrev pub combination : {K : Type 0} → (ℕ → ℕ) → List (K → ℕ) → K → ℕ
combination multiplier [] x = 0
combination multiplier (f ∷ fs) x = multiplier 0 * f x + combination (λ k. multiplier (suc k)) fs x

-- the row is a sum of multiples of the rows, modulo p. A multiplier is any number: it has the same effect as its residue
pub record InSpan (p : ℕ) (rows : List Row) (row : Row) : Type 0 where
  pub multiplier : ℕ → ℕ
  pub is : (x : Integral) → coefficient row x ≡ combination multiplier (map coefficient rows) x % p

-- each list of rows has the other in its span
pub record SameSpan (p : ℕ) (rows others : List Row) : Type 0 where
  pub forth : All (InSpan p others) rows
  pub back : All (InSpan p rows) others
