-- Sums of products: `dot` of two lists as the sum of the entries of the first, weighted by a function of
-- their places. All lemmas on `dot` are read off from those on `weigh`.
use Rattle.std.proofs.Common.{◌≡◌, ◌≢◌, ℕ, zero, suc, ◌+◌, ◌*◌, ◌%◌, ◌<◌, ◌≤◌, List, [], ◌∷◌, ◌++◌, length, get_or, take, replicate, min, inl, inr, refl, sym, ap, ◌∙◌, arith, zero-add, add-zero, add_assoc}
use Rattle.std.proofs.Math.Nat.{mul-add, mul_comm, mul_assoc, mul-zero, mul-one, zero-mul, suc-ne-zero, add-mod}
use Rattle.std.proofs.lemmas.Bool.Decides.{nat_tests}
use Rattle.std.proofs.Math.Numerals.{add-one}
use Rattle.std.proofs.lemmas.Bool.{cases_lt}
use Rattle.std.proofs.Math.Seq.{take-nil}
use Rattle.std.proofs.lemmas.List.{take_all}
use Rattle.matrix_elimination.specs.Vectors.{dot, column, unit_at}
use Rattle.matrix_elimination.proofs.Congruences.{sums, multiples}

-- the sum of the entries, each as often as the function of its place says
abbrev pub weigh : List ℕ → (ℕ → ℕ) → ℕ
weigh [] f = 0
weigh (x ∷ xs) f = x * f 0 + weigh xs (λ k. f (suc k))

pub weigh-none : (xs : List ℕ) → weigh xs (λ _. 0) ≡ 0
weigh-none [] = refl
weigh-none (x ∷ xs) = ap (λ n. n + weigh xs (λ _. 0)) (mul-zero x) ∙ zero-add _ ∙ weigh-none xs

-- `dot` reads 0 past the end of the second list
pub dot-weigh : (xs ys : List ℕ) → dot xs ys ≡ weigh xs (λ k. get_or ys k 0)
dot-weigh [] ys = refl
dot-weigh (x ∷ xs) [] = sym (weigh-none (x ∷ xs))
dot-weigh (x ∷ xs) (y ∷ ys) = ap (λ n. x * y + n) (dot-weigh xs ys)

pub dot-nil : (xs : List ℕ) → dot xs [] ≡ 0
dot-nil [] = refl
dot-nil (x ∷ xs) = refl

pub dot-comm : (xs ys : List ℕ) → dot xs ys ≡ dot ys xs
dot-comm [] ys = sym (dot-nil ys)
dot-comm (x ∷ xs) [] = refl
dot-comm (x ∷ xs) (y ∷ ys) = ap (λ n. n + dot xs ys) (mul_comm x y) ∙ ap (λ n. y * x + n) (dot-comm xs ys)

-- the entries may be taken modulo p
pub weigh-same : (p : ℕ) (xs : List ℕ) (f g : ℕ → ℕ) → ((k : ℕ) → k < length xs → f k % p ≡ g k % p) → weigh xs f % p ≡ weigh xs g % p
weigh-same p [] f g same = refl
weigh-same p (x ∷ xs) f g same =
    sums p (x * f 0) (weigh xs (λ k. f (suc k))) (x * g 0) (weigh xs (λ k. g (suc k)))
    (multiples p x (f 0) (g 0) (same 0 (omega arith)))
    (weigh-same p xs (λ k. f (suc k)) (λ k. g (suc k)) (λ k h. same (suc k) (omega arith)))

pub weigh-equal : (xs : List ℕ) (f g : ℕ → ℕ) → ((k : ℕ) → k < length xs → f k ≡ g k) → weigh xs f ≡ weigh xs g
weigh-equal [] f g same = refl
weigh-equal (x ∷ xs) f g same =
    let rest = weigh-equal xs (λ k. f (suc k)) (λ k. g (suc k)) (λ k h. same (suc k) (omega arith)) in
    ap (λ n. x * n + weigh xs (λ k. f (suc k))) (same 0 (omega arith)) ∙ ap (λ n. x * g 0 + n) rest

pub weigh-add : (xs : List ℕ) (f g : ℕ → ℕ) → weigh xs (λ k. f k + g k) ≡ weigh xs f + weigh xs g
weigh-add [] f g = refl
weigh-add (x ∷ xs) f g =
    let rest = weigh-add xs (λ k. f (suc k)) (λ k. g (suc k)) in
    omega (arith, mul-add x (f 0) (g 0), rest)

pub weigh-scale : (n : ℕ) (xs : List ℕ) (f : ℕ → ℕ) → weigh xs (λ k. n * f k) ≡ n * weigh xs f
weigh-scale n [] f = sym (mul-zero n)
weigh-scale n (x ∷ xs) f =
    let rest = weigh-scale n xs (λ k. f (suc k)) in
    let first : x * (n * f 0) ≡ n * (x * f 0) = sym (mul_assoc x n (f 0)) ∙ ap (λ a. a * f 0) (mul_comm x n) ∙ mul_assoc n x (f 0) in
    omega (arith, first, rest, mul-add n (x * f 0) (weigh xs (λ k. f (suc k))))

-- ---- the unit vectors

pub unit_at-here : (j : ℕ) → unit_at j j ≡ 1
unit_at-here j = grind (arith, nat_tests)

pub unit_at-other : (j i : ℕ) → i ≢ j → unit_at j i ≡ 0
unit_at-other j i h = grind (arith, nat_tests)

unit_at-first : (k : ℕ) → unit_at 0 (suc k) ≡ 0
unit_at-first k = unit_at-other 0 (suc k) (suc-ne-zero k)

unit_at-none : (j : ℕ) → unit_at (suc j) 0 ≡ 0
unit_at-none j = unit_at-other (suc j) 0 (λ e. suc-ne-zero j (sym e))

unit_at-rest : (j k : ℕ) → unit_at (suc j) (suc k) ≡ unit_at j k
unit_at-rest j k = grind (arith, nat_tests)

-- one entry alone
pub weigh-unit : (xs : List ℕ) (j : ℕ) → weigh xs (unit_at j) ≡ get_or xs j 0
weigh-unit [] j = refl
weigh-unit (x ∷ xs) zero =
    let rest : weigh xs (λ k. unit_at 0 (suc k)) ≡ 0 = weigh-equal xs (λ k. unit_at 0 (suc k)) (λ _. 0) (λ k _. unit_at-first k) ∙ weigh-none xs in
    let first : x * unit_at 0 0 ≡ x = ap (λ n. x * n) (unit_at-here 0) ∙ mul-one x in
    omega (arith, rest, first)
weigh-unit (x ∷ xs) (suc j) =
    let rest : weigh xs (λ k. unit_at (suc j) (suc k)) ≡ weigh xs (unit_at j) = weigh-equal xs (λ k. unit_at (suc j) (suc k)) (unit_at j) (λ k _. unit_at-rest j k) in
    let first : x * unit_at (suc j) 0 ≡ 0 = ap (λ n. x * n) (unit_at-none j) ∙ mul-zero x in
    omega (arith, rest, first, weigh-unit xs j)

-- two sums may be taken in either order
pub weigh-turn : (xs ys : List ℕ) (f : ℕ → ℕ → ℕ) → weigh xs (λ k. weigh ys (λ i. f k i)) ≡ weigh ys (λ i. weigh xs (λ k. f k i))
weigh-turn [] ys f = sym (weigh-none ys)
weigh-turn (x ∷ xs) ys f =
    ap (λ n. x * weigh ys (λ i. f 0 i) + n) (weigh-turn xs ys (λ k. f (suc k)))
    ∙ ap (λ n. n + weigh ys (λ i. weigh xs (λ k. f (suc k) i))) (sym (weigh-scale x ys (λ i. f 0 i)))
    ∙ sym (weigh-add ys (λ i. x * f 0 i) (λ i. weigh xs (λ k. f (suc k) i)))

-- ---- the entries of a column

pub column-at : (x : ℕ) (rows : List (List ℕ)) (k : ℕ) → get_or (column x rows) k 0 ≡ get_or (get_or rows k []) x 0
column-at x [] k = refl
column-at x (row ∷ rows) zero = refl
column-at x (row ∷ rows) (suc k) = column-at x rows k

-- what is appended on both sides
pub dot-append : (xs zs ys ws : List ℕ) → length xs ≡ length zs → dot (xs ++ ys) (zs ++ ws) ≡ dot xs zs + dot ys ws
dot-append [] [] ys ws e = sym (zero-add _)
dot-append [] (z ∷ zs) ys ws e = absurd (omega arith)
dot-append (x ∷ xs) [] ys ws e = absurd (omega arith)
dot-append (x ∷ xs) (z ∷ zs) ys ws e =
    ap (λ n. x * z + n) (dot-append xs zs ys ws (omega arith)) ∙ sym (add_assoc (x * z) (dot xs zs) (dot ys ws))

pub dot-zeros : (n : ℕ) (ys : List ℕ) → dot (replicate n 0) ys ≡ 0
dot-zeros zero ys = refl
dot-zeros (suc n) [] = refl
dot-zeros (suc n) (y ∷ ys) = ap (λ a. a + dot (replicate n 0) ys) (zero-mul y) ∙ zero-add _ ∙ dot-zeros n ys

-- one place more
pub dot-take-suc : (xs ys : List ℕ) (c : ℕ) → dot (take (suc c) xs) ys ≡ dot (take c xs) ys + get_or xs c 0 * get_or ys c 0
dot-take-suc [] ys c =
    ap (λ zs. dot zs ys) (take-nil (suc c)) ∙ sym (zero-mul (get_or ys c 0)) ∙ sym (zero-add _) ∙ ap (λ zs. dot zs ys + 0 * get_or ys c 0) (sym (take-nil c))
dot-take-suc (x ∷ xs) [] zero = sym (mul-zero x) ∙ sym (zero-add _)
dot-take-suc (x ∷ xs) (y ∷ ys) zero = add-zero (x * y) ∙ sym (zero-add (x * y))
dot-take-suc (x ∷ xs) [] (suc c) = sym (mul-zero (get_or xs c 0)) ∙ sym (zero-add _)
dot-take-suc (x ∷ xs) (y ∷ ys) (suc c) =
    ap (λ n. x * y + n) (dot-take-suc xs ys c) ∙ sym (add_assoc (x * y) (dot (take c xs) ys) (get_or xs c 0 * get_or ys c 0))

pub dot-take-all : (xs ys : List ℕ) (c : ℕ) → length xs ≤ c → dot (take c xs) ys ≡ dot xs ys
dot-take-all xs ys c h = ap (λ zs. dot zs ys) (take_all c xs h)

-- no more places than the second list has
pub dot-take-other : (xs ys : List ℕ) (c : ℕ) → length ys ≤ c → dot (take c xs) ys ≡ dot xs ys
dot-take-other xs [] c h = dot-nil (take c xs) ∙ sym (dot-nil xs)
dot-take-other [] (y ∷ ys) c h = ap (λ zs. dot zs (y ∷ ys)) (take-nil c)
dot-take-other (x ∷ xs) (y ∷ ys) zero h = absurd (omega arith)
dot-take-other (x ∷ xs) (y ∷ ys) (suc c) h = ap (λ n. x * y + n) (dot-take-other xs ys c (omega arith))

-- the numbers of places that a loop over both lists goes through
pub dot-take-min : (xs ys : List ℕ) (c : ℕ) → min (length xs) (length ys) ≤ c → dot (take c xs) ys ≡ dot xs ys
dot-take-min xs ys c h =
    elim (cases_lt (length xs) (length ys)) [
      | inl less ↦ dot-take-all xs ys c (omega arith)
      | inr more ↦ dot-take-other xs ys c (omega arith)
    ]

pub dot-take-add : (p : ℕ) (xs ys : List ℕ) (c : ℕ) → (dot (take c xs) ys % p + (get_or xs c 0 * get_or ys c 0) % p) % p ≡ dot (take (c + 1) xs) ys % p
dot-take-add p xs ys c =
    sym (add-mod (dot (take c xs) ys) (get_or xs c 0 * get_or ys c 0) p) ∙ ap (λ n. n % p) (sym (ap (λ n. dot (take n xs) ys) (add-one c) ∙ dot-take-suc xs ys c))

-- the rows' products with a vector, weighed, are the columns' sums, weighed by the vector
pub dot-columns : (vector multipliers : List ℕ) (rows : List (List ℕ)) → weigh vector (λ x. dot multipliers (column x rows)) ≡ weigh multipliers (λ j. dot (get_or rows j []) vector)
dot-columns vector multipliers rows =
    weigh-equal vector (λ x. dot multipliers (column x rows)) (λ x. weigh multipliers (λ j. get_or (get_or rows j []) x 0)) (λ x _. dot-weigh multipliers (column x rows) ∙ weigh-equal multipliers (λ j. get_or (column x rows) j 0) (λ j. get_or (get_or rows j []) x 0) (λ j _. column-at x rows j))
    ∙ weigh-turn vector multipliers (λ x j. get_or (get_or rows j []) x 0)
    ∙ weigh-equal multipliers (λ j. weigh vector (λ x. get_or (get_or rows j []) x 0)) (λ j. dot (get_or rows j []) vector) (λ j _. sym (dot-comm (get_or rows j []) vector ∙ dot-weigh vector (get_or rows j [])))
