-- What a loop has changed so far in a vector.
use Rattle.std.proofs.Common.{◌≡◌, ℕ, ◌<◌, ◌≤◌, List, length, slice_index, All}

-- the entries before `place` are changed, and the others are as they were
pub record IsChangedBefore (p place : ℕ) (change : ℕ → ℕ) (old new : List ℕ) : Type 0 where
  pub size : length new ≡ length old
  pub below : All (λ x. x < p) new
  pub changed : (k : ℕ) → k < place → slice_index new k ≡ change k
  pub same : (k : ℕ) → place ≤ k → slice_index new k ≡ slice_index old k
