-- Index lists with one index changed.
use Rattle.std.proofs.Common.{◌≡◌, ℕ, zero, suc, ◌+◌, ◌-◌, ◌<◌, ◌≤◌, ◌⊎◌, inl, inr, List, [], ◌∷◌, ◌++◌, length, take, drop, get_or, set, refl, sym, ap, subst, ◌∙◌, arith, add-one, ℤ, pos, negsuc, ◌+ℤ◌, to_z, of_z, w8}
use Rattle.std.specs.Prelude.{All}
use Rattle.std.proofs.lemmas.Int.{ints}
use Rattle.std.proofs.lemmas.List.{length-set, take_at}
use Rattle.integral_index.specs.Integral.{IsIndex, IsIndexList, positive_part, negative_part}
use Rattle.ibp_generator.specs.Shifts.{IsRaisedIndex, IsSeedIndex, index_at, lowered, raised, shifted}

pub shifted-is : (a : List ℤ) (place : ℕ) (by : ℤ) → shifted a (place + 1) by ≡ set a place (get_or a place (pos 0) +ℤ by)
shifted-is a place by = rw (add-one place) refl

pub index_at-is : (a : List ℤ) (place : ℕ) → index_at a (place + 1) ≡ get_or a place (pos 0)
index_at-is a place = rw (add-one place) refl

pub length-shifted : (a : List ℤ) (place : ℕ) (by : ℤ) → length (shifted a (place + 1) by) ≡ length a
length-shifted a place by = ap length (shifted-is a place by) ∙ length-set a place _

-- what holds of all indices and of the changed one holds of the changed list
All-set : (P : ℤ → Type 0) (a : List ℤ) (place : ℕ) (n : ℤ) → All P a → P n → All P (set a place n)
All-set P [] place n all here k d below = absurd (omega (arith, below))
All-set P (x ∷ a) zero n all here zero d below = here
All-set P (x ∷ a) zero n all here (suc k) d below = all (suc k) d (omega (arith, below))
All-set P (x ∷ a) (suc place) n all here zero d below = all 0 d (omega arith)
All-set P (x ∷ a) (suc place) n all here (suc k) d below = All-set P a place n (λ j e h. all (suc j) e (omega (arith, h))) here k d (omega (arith, below))

pub IsIndexList-shifted : (a : List ℤ) (place : ℕ) (by : ℤ) → IsIndexList a → IsIndex (index_at a (place + 1) +ℤ by) → IsIndexList (shifted a (place + 1) by)
IsIndexList-shifted a place by list here = record {
  some = omega (arith, length-shifted a place by, list.some);
  at_most_twenty = omega (arith, length-shifted a place by, list.at_most_twenty);
  each = subst (λ (xs : List ℤ). All IsIndex xs) (sym (shifted-is a place by))
      (All-set IsIndex a place (get_or a place (pos 0) +ℤ by) list.each (subst (λ (z : ℤ). IsIndex (z +ℤ by)) (index_at-is a place) here));
}

-- what is stored in front of the padding
pub stored : (a rest written new : List ℤ) (n place : ℕ) (by added : ℤ) → n ≡ length a → new ≡ a → added ≡ by → written ≡ set (take n (new ++ rest)) place (get_or (take n (new ++ rest)) place (pos 0) +ℤ added) → (tail : List ℤ) → take n (written ++ tail) ≡ shifted a (place + 1) by
stored a rest written new n place by added size same equal is tail =
    let front : take n (new ++ rest) ≡ a = ap (λ xs. take n (xs ++ rest)) same ∙ take_at a rest n (sym size) in
    let whole : written ≡ shifted a (place + 1) by = is ∙ ap (λ xs. set xs place (get_or xs place (pos 0) +ℤ added)) front ∙ ap (λ z. set a place (get_or a place (pos 0) +ℤ z)) equal ∙ sym (shifted-is a place by) in
    let long : length written ≡ n = ap length whole ∙ length-shifted a place by ∙ sym size in
    take_at written tail n long ∙ whole

-- ---- raised by 1, and then lowered by 1

raised_index : (z : ℤ) → IsSeedIndex z → IsRaisedIndex (z +ℤ pos 1)
raised_index (pos n) h =
    let e : pos n +ℤ pos 1 ≡ pos (n + 1) = omega (arith, ints) in
    subst IsRaisedIndex (sym e) (omega (arith, h.0), omega arith)
raised_index (negsuc zero) h = (omega arith, omega arith)
raised_index (negsuc (suc n)) h =
    let e : negsuc (suc n) +ℤ pos 1 ≡ negsuc n = omega (arith, ints) in
    subst IsRaisedIndex (sym e) (omega arith, omega (arith, h.1))

seed_is_raised : (z : ℤ) → IsSeedIndex z → IsRaisedIndex z
seed_is_raised z h = (omega (arith, h.0), h.1)

raised_is_index : (z : ℤ) → IsRaisedIndex z → IsIndex z
raised_is_index z h = (h.0, omega (arith, h.1))

lowered_index : (z : ℤ) → IsRaisedIndex z → IsIndex (z +ℤ negsuc 0)
lowered_index (pos zero) h = (omega arith, omega arith)
lowered_index (pos (suc n)) h =
    let e : pos (suc n) +ℤ negsuc 0 ≡ pos n = omega (arith, ints) in
    subst IsIndex (sym e) (omega (arith, h.0), omega arith)
lowered_index (negsuc n) h =
    let e : negsuc n +ℤ negsuc 0 ≡ negsuc (n + 1) = omega (arith, ints) in
    subst IsIndex (sym e) (omega arith, omega (arith, h.1))

pub IsIndex-raised : (a : List ℤ) (place : ℕ) → All IsSeedIndex a → place < length a → IsIndex (index_at a (place + 1) +ℤ pos 1)
IsIndex-raised a place all within =
    raised_is_index _ (subst (λ (z : ℤ). IsRaisedIndex (z +ℤ pos 1)) (sym (index_at-is a place)) (raised_index (get_or a place (pos 0)) (all place (pos 0) within)))

pub IsIndex-lowered : (a : List ℤ) (place : ℕ) → All IsRaisedIndex a → place < length a → IsIndex (index_at a (place + 1) +ℤ negsuc 0)
IsIndex-lowered a place all within =
    subst (λ (z : ℤ). IsIndex (z +ℤ negsuc 0)) (sym (index_at-is a place)) (lowered_index (get_or a place (pos 0)) (all place (pos 0) within))

pub AllRaised : (a : List ℤ) (place : ℕ) → All IsSeedIndex a → place < length a → All IsRaisedIndex (raised a (place + 1))
AllRaised a place all within =
    subst (λ (xs : List ℤ). All IsRaisedIndex xs) (sym (shifted-is a place (pos 1)))
    (All-set IsRaisedIndex a place _ (λ k d h. seed_is_raised (get_or a k d) (all k d h)) (raised_index (get_or a place (pos 0)) (all place (pos 0) within)))

-- an index of a seed is read as it is
as_it_is : (z : ℤ) → IsSeedIndex z → to_z w8 (of_z w8 z) ≡ z
as_it_is (pos n) h = omega (arith, ints, h.0)
as_it_is (negsuc n) h = omega (arith, ints, h.1)

pub index_read : (a read : List ℤ) (place : ℕ) → All IsSeedIndex a → place < length a → read ≡ a → to_z w8 (of_z w8 (get_or read place (pos 0))) ≡ index_at a (place + 1)
index_read a read place all within same =
    ap (λ (xs : List ℤ). to_z w8 (of_z w8 (get_or xs place (pos 0)))) same ∙ as_it_is (get_or a place (pos 0)) (all place (pos 0) within) ∙ sym (index_at-is a place)
