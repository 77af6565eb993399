-- Permutations of the numbers 1 .. n, as lists: the number j goes to the entry with the number j.
-- The project's own form of what every book on algebra has.
use Rattle.std.specs.Prelude.{◌≡◌, ℕ, ◌≤◌, List, length, All}
use Rattle.propagators.specs.Sums.{entry}

-- n of the numbers 1 .. n, no two of which are the same: so each of them stands there once
pub record IsPermutationOf (n : ℕ) (places : List ℕ) : Type 0 where
  pub size : length places ≡ n
  pub within : All (λ place. (1 ≤ place) × (place ≤ n)) places
  pub once : (i j : ℕ) → 1 ≤ i → i ≤ n → 1 ≤ j → j ≤ n → entry places i ≡ entry places j → i ≡ j
