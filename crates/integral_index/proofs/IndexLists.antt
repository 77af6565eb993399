-- Facts on the numbers that are read from a list of indices.
use Rattle.std.proofs.Common.{◌≡◌, ℕ, suc, ◌+◌, ◌*◌, ◌^◌, ◌<◌, ◌≤◌, Bool, true, false, cond, ℤ, pos, ◌<ℤ◌, ◌≤ℤ◌, List, [], ◌∷◌, ◌++◌, length, get_or, take, refl, sym, ap, ◌∙◌, arith, add_comm, lit<}
use Rattle.std.proofs.lemmas.List.{take_more, length-take-le}
use Rattle.std.proofs.lemmas.List.Sums.{sum_by-cons, sum_by-le, count_by-le-length}
use Rattle.std.proofs.lemmas.Nat.{ones_cat}
use Rattle.std.proofs.lemmas.Bool.Decides.{nat_tests}
use Rattle.std.specs.Prelude.{count_ones}
use Rattle.std.specs.Int.Count.{ones, ones_in}
use Rattle.std.proofs.Math.Nat.{pow-suc}
use Rattle.integral_index.specs.Integral.{positive_part, negative_part, is_positive, IsIndexList, sector_of, t_of, r_of, s_of}

bit_next : (b s more n : ℕ) (positive : Bool) → more ≡ s + cond positive (2 ^ n) 0 → b + 2 * more ≡ b + 2 * s + cond positive (2 ^ suc n) 0
bit_next b s more n true e = rw pow-suc (omega arith)
bit_next b s more n false e = omega arith

-- one index more sets the next bit where it is positive
pub sector_of-push : (xs : List ℤ) (y : ℤ) → sector_of (xs ++ y ∷ []) ≡ sector_of xs + cond (is_positive y) (2 ^ length xs) 0
sector_of-push [] y = omega arith
sector_of-push (x ∷ xs) y = bit_next (cond (is_positive x) 1 0) (sector_of xs) (sector_of (xs ++ y ∷ [])) (length xs) (is_positive y) (sector_of-push xs y)

pub sector_of_more : (xs : List ℤ) (i : ℕ) (d : ℤ) → i < length xs → sector_of (take (i + 1) xs) ≡ sector_of (take i xs) + cond (is_positive (get_or xs i d)) (2 ^ i) 0
sector_of_more xs i d h =
    ap sector_of (take_more xs i d h) ∙ sector_of-push (take i xs) (get_or xs i d)
    ∙ ap (λ n. sector_of (take i xs) + cond (is_positive (get_or xs i d)) (2 ^ n) 0) (length-take-le i xs (omega arith))

ones_bit : (positive : Bool) → count_ones (cond positive 1 0) ≡ cond positive 1 0
unfolding ones ones_in
ones_bit true = refl
ones_bit false = refl

bit_small : (positive : Bool) → cond positive 1 0 < 2 ^ 1
bit_small true = lit< tt
bit_small false = lit< tt

count_ones-next : (positive : Bool) (n : ℕ) → count_ones (cond positive 1 0 + 2 * n) ≡ cond positive 1 0 + count_ones n
count_ones-next positive n =
    let e : cond positive 1 0 + 2 * n ≡ n * 2 ^ 1 + cond positive 1 0 = omega arith in
    ap count_ones e ∙ ones_cat 1 n (cond positive 1 0) (bit_small positive) ∙ ap (λ m. count_ones n + m) (ones_bit positive) ∙ add_comm _ _

is_positive-true : (a : ℤ) → pos 0 <ℤ a → is_positive a ≡ true
is_positive-true a h = grind (arith, nat_tests)

is_positive-false : (a : ℤ) → a ≤ℤ pos 0 → is_positive a ≡ false
is_positive-false a h = grind (arith, nat_tests)

pub sector_of_more_positive : (xs : List ℤ) (i : ℕ) (d : ℤ) → i < length xs → pos 0 <ℤ get_or xs i d → sector_of (take (i + 1) xs) ≡ sector_of (take i xs) + 2 ^ i
sector_of_more_positive xs i d h positive =
    sector_of_more xs i d h ∙ ap (λ b. sector_of (take i xs) + cond b (2 ^ i) 0) (is_positive-true (get_or xs i d) positive)

pub sector_of_more_other : (xs : List ℤ) (i : ℕ) (d : ℤ) → i < length xs → get_or xs i d ≤ℤ pos 0 → sector_of (take (i + 1) xs) ≡ sector_of (take i xs)
sector_of_more_other xs i d h other =
    sector_of_more xs i d h ∙ ap (λ b. sector_of (take i xs) + cond b (2 ^ i) 0) (is_positive-false (get_or xs i d) other) ∙ omega arith

-- t counts the bits of the sector
pub count_ones-sector_of : (xs : List ℤ) → count_ones (sector_of xs) ≡ t_of xs
unfolding ones ones_in
count_ones-sector_of [] = refl
count_ones-sector_of (x ∷ xs) =
    count_ones-next (is_positive x) (sector_of xs) ∙ ap (λ n. cond (is_positive x) 1 0 + n) (count_ones-sector_of xs)
    ∙ sym (sum_by-cons (λ y. cond (is_positive y) 1 0) x xs)

-- an index list has t at most 20, and r and s at most 2020
pub r_of-le : (xs : List ℤ) → IsIndexList xs → r_of xs ≤ 2020
r_of-le xs h =
    omega (arith, h.at_most_twenty, sum_by-le positive_part 101 xs (λ k d below. (h.each k d below).0))

pub s_of-le : (xs : List ℤ) → IsIndexList xs → s_of xs ≤ 2020
s_of-le xs h =
    omega (arith, h.at_most_twenty, sum_by-le negative_part 101 xs (λ k d below. (h.each k d below).1))

pub t_of-le : (xs : List ℤ) → IsIndexList xs → t_of xs ≤ 20
t_of-le xs h = omega (arith, h.at_most_twenty, count_by-le-length is_positive xs)

-- each positive index is at least 1
pub t_of-le-r_of : (xs : List ℤ) → t_of xs ≤ r_of xs
t_of-le-r_of [] = omega arith
t_of-le-r_of (x ∷ xs) =
    omega (arith, sum_by-cons (λ y. cond (is_positive y) 1 0) x xs, sum_by-cons positive_part x xs, t_of-le-r_of xs, one x)
  where
    one : (x : ℤ) → cond (is_positive x) 1 0 ≤ positive_part x
    one x = grind (arith, nat_tests)
