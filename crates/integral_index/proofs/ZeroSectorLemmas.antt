-- Whether a sector is zero depends only on which sectors are listed.
use Rattle.std.proofs.Common.{◌≡◌, ℕ, ◌+◌, ◌==◌, Bool, true, false, ◌||◌, List, [], ◌∷◌, refl, sym, ap, ◌∙◌, add-one, arith}
use Rattle.std.proofs.lemmas.Bool.{false≢true}
use Rattle.std.proofs.lemmas.List.Recursion.{or_at}
use Rattle.std.specs.Prelude.{Contains, ◌↔◌}
use Rattle.std.specs.List.{list_any}
use Rattle.integral_index.specs.ZeroSectors.{is_subsector, is_zero_sector}

-- a listed number that passes
list_any-from_contains : (p : ℕ → Bool) (xs : List ℕ) (n : ℕ) → Contains xs n → p n ≡ true → list_any p xs ≡ true
list_any-from_contains p xs n h pass = or_at (list_any p) p refl (λ _ _. refl) xs h.0 n h.1 (ap p h.2 ∙ pass)

-- a number that passes, and where it is listed
Passing : (ℕ → Bool) → List ℕ → Type 0
Passing p xs = (n : ℕ) × Contains xs n × (p n ≡ true)

Passing-next : (p : ℕ → Bool) (x : ℕ) (xs : List ℕ) (b : Bool) → p x ≡ b → (list_any p xs ≡ true → Passing p xs) → (b || list_any p xs) ≡ true → Passing p (x ∷ xs)
unfolding Passing
Passing-next p x xs true e rest h = (x, (0, omega arith, refl), e)
Passing-next p x xs false e rest h = let w = rest h in (w.0, (w.1.0 + 1, omega (arith, w.1.1), rw add-one w.1.2), w.2)

found : (p : ℕ → Bool) (xs : List ℕ) → list_any p xs ≡ true → Passing p xs
found p [] h = absurd (false≢true h)
found p (x ∷ xs) h = Passing-next p x xs (p x) refl (found p xs) h

same_bools : (a b : Bool) → (a ≡ true → b ≡ true) → (b ≡ true → a ≡ true) → a ≡ b
same_bools true b f g = sym (f refl)
same_bools false true f g = g refl
same_bools false false f g = refl

-- a test of some element, over lists with the same elements
list_any-same : (p : ℕ → Bool) (xs ys : List ℕ) → ((n : ℕ) → Contains xs n ↔ Contains ys n) → list_any p xs ≡ list_any p ys
unfolding Passing
list_any-same p xs ys same =
    same_bools _ _
    (λ h. let w = found p xs h in list_any-from_contains p ys w.0 ((same w.0).0 w.1) w.2)
    (λ h. let w = found p ys h in list_any-from_contains p xs w.0 ((same w.0).1 w.1) w.2)

pub is_zero_sector-same : (xs ys : List ℕ) → ((n : ℕ) → Contains xs n ↔ Contains ys n) → (sector : ℕ) → is_zero_sector xs sector ≡ is_zero_sector ys sector
is_zero_sector-same xs ys same sector = ap (λ b. (sector == 0) || b) (list_any-same (is_subsector sector) xs ys same)
