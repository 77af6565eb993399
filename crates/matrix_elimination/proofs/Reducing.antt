-- A row's sum without what is solved.
use Rattle.std.proofs.Common.{◌≡◌, ℕ, zero, suc, ◌+◌, ◌*◌, ◌%◌, ◌<◌, ◌≤◌, List, [], ◌∷◌, length, get_or, take, Option, Some, None, refl, sym, ap, ◌∙◌, add-zero}
use Rattle.std.proofs.Math.Nat.{mul-zero}
use Rattle.std.proofs.Math.Numerals.{add-one}
use Rattle.field_word.specs.Residues.{opposite_of}
use Rattle.matrix_elimination.specs.declared.elimination.Solved.{Solved}
use Rattle.matrix_elimination.specs.Vectors.{dot}
use Rattle.matrix_elimination.specs.Elimination.{entry_at, multiplier_at, entries_at, multipliers_at}
use Rattle.matrix_elimination.specs.Steps.{IsWithMultiple, IsSum, IsRest}
use Rattle.matrix_elimination.proofs.Congruences.{subtracted}
use Rattle.matrix_elimination.proofs.Weights.{dot-take-suc, dot-take-all}

pub entries_at-at : (x : ℕ) (solved : List (Option Solved)) (c : ℕ) → get_or (entries_at x solved) c 0 ≡ entry_at x (get_or solved c None)
entries_at-at x [] c = refl
entries_at-at x (s ∷ solved) zero = refl
entries_at-at x (s ∷ solved) (suc c) = entries_at-at x solved c

pub multipliers_at-at : (i : ℕ) (solved : List (Option Solved)) (c : ℕ) → get_or (multipliers_at i solved) c 0 ≡ multiplier_at i (get_or solved c None)
multipliers_at-at i [] c = refl
multipliers_at-at i (s ∷ solved) zero = refl
multipliers_at-at i (s ∷ solved) (suc c) = multipliers_at-at i solved c

-- one column more, of the entries or of the multipliers: bs has what the columns have
more : (p : ℕ) (row bs : List ℕ) (c u v new total : ℕ) → get_or row c 0 < p → get_or bs c 0 ≡ v → new ≡ (u + (opposite_of p (get_or row c 0) * v) % p) % p → (u + dot (take c row) bs) % p ≡ total → (new + dot (take (c + 1) row) bs) % p ≡ total
more p row bs c u v new total below at is before =
    let split : dot (take (c + 1) row) bs ≡ dot (take c row) bs + get_or row c 0 * v =
    ap (λ n. dot (take n row) bs) (add-one c) ∙ dot-take-suc row bs c ∙ ap (λ n. dot (take c row) bs + get_or row c 0 * n) at in
    ap (λ n. (n + dot (take (c + 1) row) bs) % p) is ∙ ap (λ n. ((u + (opposite_of p (get_or row c 0) * v) % p) % p + n) % p) split
    ∙ subtracted p (get_or row c 0) v u (dot (take c row) bs) below ∙ before

none : (p : ℕ) (row bs : List ℕ) (c u total : ℕ) → get_or bs c 0 ≡ 0 → (u + dot (take c row) bs) % p ≡ total → (u + dot (take (c + 1) row) bs) % p ≡ total
none p row bs c u total at before =
    let split : dot (take (c + 1) row) bs ≡ dot (take c row) bs =
    ap (λ n. dot (take n row) bs) (add-one c) ∙ dot-take-suc row bs c ∙ ap (λ n. dot (take c row) bs + get_or row c 0 * n) at
    ∙ ap (λ n. dot (take c row) bs + n) (mul-zero (get_or row c 0)) ∙ add-zero _ in
    ap (λ n. (u + n) % p) split ∙ before

pub rest_more : (p : ℕ) (row : List ℕ) (solved : List (Option Solved)) (c : ℕ) (pivot old cur new : Solved) → get_or row c 0 < p → get_or solved c None ≡ Some pivot → IsWithMultiple p (opposite_of p (get_or row c 0)) cur.entries pivot.entries new.entries → IsWithMultiple p (opposite_of p (get_or row c 0)) cur.multipliers pivot.multipliers new.multipliers → IsRest p (take c row) solved old cur → IsRest p (take (c + 1) row) solved old new
rest_more p row solved c pivot old cur new below has entries multipliers before = record {
  entries = λ x. more p row (entries_at x solved) c _ (get_or pivot.entries x 0) _ _ below (entries_at-at x solved c ∙ ap (entry_at x) has) (entries.is x) (before.entries x);
  multipliers = λ i. more p row (multipliers_at i solved) c _ (get_or pivot.multipliers i 0) _ _ below (multipliers_at-at i solved c ∙ ap (multiplier_at i) has) (multipliers.is i) (before.multipliers i);
}

pub rest_none : (p : ℕ) (row : List ℕ) (solved : List (Option Solved)) (c : ℕ) (old cur : Solved) → get_or solved c None ≡ None → IsRest p (take c row) solved old cur → IsRest p (take (c + 1) row) solved old cur
rest_none p row solved c old cur has before = record {
  entries = λ x. none p row (entries_at x solved) c _ _ (entries_at-at x solved c ∙ ap (entry_at x) has) (before.entries x);
  multipliers = λ i. none p row (multipliers_at i solved) c _ _ (multipliers_at-at i solved c ∙ ap (multiplier_at i) has) (before.multipliers i);
}

pub rest_all : (p : ℕ) (row : List ℕ) (solved : List (Option Solved)) (c : ℕ) (old cur : Solved) → length row ≤ c → IsRest p (take c row) solved old cur → IsRest p row solved old cur
rest_all p row solved c old cur h before = record {
  entries = λ x. ap (λ n. (get_or cur.entries x 0 + n) % p) (sym (dot-take-all row (entries_at x solved) c h)) ∙ before.entries x;
  multipliers = λ i. ap (λ n. (get_or cur.multipliers i 0 + n) % p) (sym (dot-take-all row (multipliers_at i solved) c h)) ∙ before.multipliers i;
}

-- ---- the sizes of sums

pub IsSum-resized : (p w h v g : ℕ) (s : Solved) → w ≡ v → h ≡ g → IsSum p w h s → IsSum p v g s
IsSum-resized p w h v g s e f is = record {
  entries = record { size = is.entries.size ∙ e; below = is.entries.below };
  multipliers = record { size = is.multipliers.size ∙ f; below = is.multipliers.below };
}

pub IsSum-with_multiple : (p w h f : ℕ) (old other new : Solved) → IsSum p w h old → IsWithMultiple p f old.entries other.entries new.entries → IsWithMultiple p f old.multipliers other.multipliers new.multipliers → IsSum p w h new
IsSum-with_multiple p w h f old other new is entries multipliers = record {
  entries = record { size = entries.vector.size ∙ is.entries.size; below = entries.vector.below };
  multipliers = record { size = multipliers.vector.size ∙ is.multipliers.size; below = multipliers.vector.below };
}
