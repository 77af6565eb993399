-- The product of two momenta over a table, as the row of their coefficients weighed by the table.
use Rattle.std.proofs.Common.{◌≡◌, ℕ, zero, suc, ◌+◌, ◌-◌, ◌*◌, ◌%◌, ◌<◌, ◌≤◌, min, max, List, [], ◌∷◌, ◌++◌, length, map, get_or, All, ℤ, pos, negsuc, refl, sym, ap, ◌∙◌, arith, zero-add, add-zero, add_assoc}
use Rattle.std.proofs.Math.Nat.{mod-lt, mod-mod, add-mul}
use Rattle.std.proofs.lemmas.Nat.{mul-mod_first}
use Rattle.std.proofs.lemmas.List.{get_or-map, length-map, length-append}
use Rattle.std.proofs.lemmas.List.Elements.{All-nil, All-cons, All-append}
use Rattle.field_word.specs.Residues.{sum_of, product_of}
use Rattle.matrix_elimination.specs.Vectors.{IsVector, dot}
use Rattle.matrix_elimination.proofs.Congruences.{sums, multiples}
use Rattle.matrix_elimination.proofs.Weights.{weigh, weigh-equal, dot-weigh}
use Rattle.kinematics.specs.Points.{place_of, product_count, table_at}
use Rattle.kinematics.specs.Rules.{residue_of, sum_below, coefficient_at, expanded}
use Rattle.kinematics.specs.RuleRows.{mixed, row_of}

-- ---- sums over the numbers below another

sum_below-equal : (n : ℕ) (f g : ℕ → ℕ) → ((k : ℕ) → k < n → f k ≡ g k) → sum_below n f ≡ sum_below n g
sum_below-equal zero f g same = refl
sum_below-equal (suc n) f g same =
    ap (λ a. a + sum_below n (λ k. f (suc k))) (same 0 (omega arith)) ∙ ap (λ a. g 0 + a) (sum_below-equal n (λ k. f (suc k)) (λ k. g (suc k)) (λ k h. same (suc k) (omega arith)))

sum_below-add : (n : ℕ) (f g : ℕ → ℕ) → sum_below n (λ k. f k + g k) ≡ sum_below n f + sum_below n g
sum_below-add zero f g = refl
sum_below-add (suc n) f g =
    let rest = sum_below-add n (λ k. f (suc k)) (λ k. g (suc k)) in
    omega (arith, rest)

-- ---- the double sum over a function of the places

abbrev term : ℕ → (ℕ → ℕ) → List ℕ → List ℕ → ℕ → ℕ → ℕ
term e f ls rs x y = get_or ls x 0 * get_or rs y 0 * f (place_of e (min x y) (max x y))

abbrev double : ℕ → (ℕ → ℕ) → List ℕ → List ℕ → ℕ
double e f ls rs = sum_below e (λ x. sum_below e (λ y. term e f ls rs x y))

place-first : (e y : ℕ) → place_of e (min 0 y) (max 0 y) ≡ y
place-first e y = ap (λ m. place_of e m (max 0 y)) (let least : min 0 y ≡ 0 = omega arith in least) ∙ (let most : max 0 y ≡ y = omega arith in most)

place-other : (e x : ℕ) → place_of e (min x 0) (max x 0) ≡ x
place-other e x = ap (λ m. place_of e m (max x 0)) (let least : min x 0 ≡ 0 = omega arith in least) ∙ (let most : max x 0 ≡ x = omega arith in most)

place-rest : (e x y : ℕ) → place_of (suc e) (min (suc x) (suc y)) (max (suc x) (suc y)) ≡ suc e + place_of e (min x y) (max x y)
place-rest e x y =
    ap (λ m. place_of (suc e) m (max (suc x) (suc y))) (let least : min (suc x) (suc y) ≡ suc (min x y) = omega arith in least)
    ∙ ap (λ n. suc e + place_of n (min x y) (max (suc x) (suc y) - 1)) (let fewer : suc e - 1 ≡ e = omega arith in fewer)
    ∙ ap (λ n. suc e + place_of e (min x y) n) (let most : max (suc x) (suc y) - 1 ≡ max x y = omega arith in most)

-- the first momentum apart
split : (e : ℕ) (f : ℕ → ℕ) (l r : ℕ) (ls rs : List ℕ) → double (suc e) f (l ∷ ls) (r ∷ rs) ≡ l * r * f 0 + (sum_below e (λ y. l * get_or rs y 0 * f (suc y)) + sum_below e (λ x. get_or ls x 0 * r * f (suc x)) + double e (λ k. f (suc e + k)) ls rs)
split e f l r ls rs =
    let t = term (suc e) f (l ∷ ls) (r ∷ rs) in
    let g : ℕ → ℕ = λ k. f (suc e + k) in
    let corner : t 0 0 ≡ l * r * f 0 = ap (λ n. l * r * f n) (place-first (suc e) 0) in
    let row : sum_below e (λ y. t 0 (suc y)) ≡ sum_below e (λ y. l * get_or rs y 0 * f (suc y)) =
    sum_below-equal e (λ y. t 0 (suc y)) (λ y. l * get_or rs y 0 * f (suc y)) (λ y _. ap (λ n. l * get_or rs y 0 * f n) (place-first (suc e) (suc y))) in
    let column : sum_below e (λ x. t (suc x) 0) ≡ sum_below e (λ x. get_or ls x 0 * r * f (suc x)) =
    sum_below-equal e (λ x. t (suc x) 0) (λ x. get_or ls x 0 * r * f (suc x)) (λ x _. ap (λ n. get_or ls x 0 * r * f n) (place-other (suc e) (suc x))) in
    let rest : sum_below e (λ x. sum_below e (λ y. t (suc x) (suc y))) ≡ double e g ls rs =
    sum_below-equal e (λ x. sum_below e (λ y. t (suc x) (suc y))) (λ x. sum_below e (λ y. term e g ls rs x y)) (λ x _.
    sum_below-equal e (λ y. t (suc x) (suc y)) (λ y. term e g ls rs x y) (λ y _. ap (λ n. get_or ls x 0 * get_or rs y 0 * f n) (place-rest e x y))) in
    let apart : sum_below e (λ x. t (suc x) 0 + sum_below e (λ y. t (suc x) (suc y))) ≡ sum_below e (λ x. t (suc x) 0) + sum_below e (λ x. sum_below e (λ y. t (suc x) (suc y))) =
    sum_below-add e (λ x. t (suc x) 0) (λ x. sum_below e (λ y. t (suc x) (suc y))) in
    omega (arith, corner, row, column, rest, apart)

-- ---- the row

length-mixed : (p l r e : ℕ) (ls rs : List ℕ) → length ls ≡ e → length rs ≡ e → length (mixed p l r ls rs) ≡ e
length-mixed p l r e [] rs h g = h
length-mixed p l r e (a ∷ ls) [] h g = absurd (omega arith)
length-mixed p l r zero (a ∷ ls) (b ∷ rs) h g = absurd (omega arith)
length-mixed p l r (suc e) (a ∷ ls) (b ∷ rs) h g = ap suc (length-mixed p l r e ls rs (omega arith) (omega arith))

pub length-row_of : (p e : ℕ) (ls rs : List ℕ) → length ls ≡ e → length rs ≡ e → length (row_of p ls rs) ≡ product_count e
length-row_of p zero [] rs h g = refl
length-row_of p (suc e) [] rs h g = absurd (omega arith)
length-row_of p e (l ∷ ls) [] h g = absurd (omega arith)
length-row_of p zero (l ∷ ls) (r ∷ rs) h g = absurd (omega arith)
length-row_of p (suc e) (l ∷ ls) (r ∷ rs) h g =
    let first = length-mixed p l r e ls rs (omega arith) (omega arith) in
    let rest = length-row_of p e ls rs (omega arith) (omega arith) in
    omega (arith, first, rest, length-append (mixed p l r ls rs) (row_of p ls rs))

below-mixed : (p l r : ℕ) (ls rs : List ℕ) → 0 < p → All (λ x. x < p) (mixed p l r ls rs)
below-mixed p l r [] rs positive = All-nil (λ x. x < p)
below-mixed p l r (a ∷ ls) [] positive = All-nil (λ x. x < p)
below-mixed p l r (a ∷ ls) (b ∷ rs) positive =
    All-cons (λ x. x < p) (sum_of p (product_of p l b) (product_of p a r)) (mixed p l r ls rs) (mod-lt (product_of p l b + product_of p a r) positive) (below-mixed p l r ls rs positive)

pub below-row_of : (p : ℕ) (ls rs : List ℕ) → 0 < p → All (λ x. x < p) (row_of p ls rs)
below-row_of p [] rs positive = All-nil (λ x. x < p)
below-row_of p (l ∷ ls) [] positive = All-nil (λ x. x < p)
below-row_of p (l ∷ ls) (r ∷ rs) positive =
    All-cons (λ x. x < p) (product_of p l r) (mixed p l r ls rs ++ row_of p ls rs) (mod-lt (l * r) positive)
    (All-append (λ x. x < p) (mixed p l r ls rs) (row_of p ls rs) (below-mixed p l r ls rs positive) (below-row_of p ls rs positive))

weigh-append : (xs ys : List ℕ) (f : ℕ → ℕ) → weigh (xs ++ ys) f ≡ weigh xs f + weigh ys (λ k. f (length xs + k))
weigh-append [] ys f = weigh-equal ys f (λ k. f (0 + k)) (λ k _. ap f (sym (zero-add k))) ∙ sym (zero-add _)
weigh-append (x ∷ xs) ys f =
    ap (λ n. x * f 0 + n) (weigh-append xs ys (λ k. f (suc k))) ∙ sym (add_assoc (x * f 0) (weigh xs (λ k. f (suc k))) (weigh ys (λ k. f (suc (length xs + k)))))
    ∙ ap (λ n. x * f 0 + weigh xs (λ k. f (suc k)) + n) (weigh-equal ys (λ k. f (suc (length xs + k))) (λ k. f (suc (length xs) + k)) (λ k _. ap f (omega arith)))

weigh-mixed : (p l r e : ℕ) (ls rs : List ℕ) (f : ℕ → ℕ) → length ls ≡ e → length rs ≡ e → weigh (mixed p l r ls rs) f % p ≡ (sum_below e (λ y. l * get_or rs y 0 * f y) + sum_below e (λ x. get_or ls x 0 * r * f x)) % p
weigh-mixed p l r zero [] rs f h g = ap (λ n. n % p) (sym (zero-add 0))
weigh-mixed p l r (suc e) [] rs f h g = absurd (omega arith)
weigh-mixed p l r e (a ∷ ls) [] f h g = absurd (omega arith)
weigh-mixed p l r zero (a ∷ ls) (b ∷ rs) f h g = absurd (omega arith)
weigh-mixed p l r (suc e) (a ∷ ls) (b ∷ rs) f h g =
    let g' : ℕ → ℕ = λ k. f (suc k) in
    let rows : ℕ = sum_below e (λ y. l * get_or rs y 0 * f (suc y)) in
    let columns : ℕ = sum_below e (λ x. get_or ls x 0 * r * f (suc x)) in
    let entry : (sum_of p (product_of p l b) (product_of p a r) * f 0) % p ≡ (l * b * f 0 + a * r * f 0) % p =
    mul-mod_first (product_of p l b + product_of p a r) (f 0) p ∙ ap (λ n. n % p) (add-mul (product_of p l b) (product_of p a r) (f 0))
    ∙ sums p (product_of p l b * f 0) (product_of p a r * f 0) (l * b * f 0) (a * r * f 0) (mul-mod_first (l * b) (f 0) p) (mul-mod_first (a * r) (f 0) p) in
    sums p (sum_of p (product_of p l b) (product_of p a r) * f 0) (weigh (mixed p l r ls rs) g') (l * b * f 0 + a * r * f 0) (rows + columns) entry (weigh-mixed p l r e ls rs g' (omega arith) (omega arith))
    ∙ ap (λ n. n % p) (let turn : l * b * f 0 + a * r * f 0 + (rows + columns) ≡ l * b * f 0 + rows + (a * r * f 0 + columns) = omega arith in turn)

-- the row weighed by the table is the double sum
weigh-row_of : (p e : ℕ) (ls rs : List ℕ) (f : ℕ → ℕ) → length ls ≡ e → length rs ≡ e → weigh (row_of p ls rs) f % p ≡ double e f ls rs % p
weigh-row_of p zero [] rs f h g = refl
weigh-row_of p (suc e) [] rs f h g = absurd (omega arith)
weigh-row_of p e (l ∷ ls) [] f h g = absurd (omega arith)
weigh-row_of p zero (l ∷ ls) (r ∷ rs) f h g = absurd (omega arith)
weigh-row_of p (suc e) (l ∷ ls) (r ∷ rs) f h g =
    let f' : ℕ → ℕ = λ k. f (suc k) in
    let later : ℕ → ℕ = λ k. f (suc e + k) in
    let size = length-mixed p l r e ls rs (omega arith) (omega arith) in
    let shift : weigh (row_of p ls rs) (λ k. f' (length (mixed p l r ls rs) + k)) ≡ weigh (row_of p ls rs) later =
    weigh-equal (row_of p ls rs) (λ k. f' (length (mixed p l r ls rs) + k)) later (λ k _. ap f (omega (arith, size))) in
    let cross : ℕ = sum_below e (λ y. l * get_or rs y 0 * f (suc y)) + sum_below e (λ x. get_or ls x 0 * r * f (suc x)) in
    ap (λ n. (product_of p l r * f 0 + n) % p) (weigh-append (mixed p l r ls rs) (row_of p ls rs) f' ∙ ap (λ n. weigh (mixed p l r ls rs) f' + n) shift)
    ∙ sums p (product_of p l r * f 0) (weigh (mixed p l r ls rs) f' + weigh (row_of p ls rs) later) (l * r * f 0) (cross + double e later ls rs) (mul-mod_first (l * r) (f 0) p)
    (sums p (weigh (mixed p l r ls rs) f') (weigh (row_of p ls rs) later) cross (double e later ls rs) (weigh-mixed p l r e ls rs f' (omega arith) (omega arith)) (weigh-row_of p e ls rs later (omega arith) (omega arith)))
    ∙ ap (λ n. n % p) (sym (split e f l r ls rs))

-- ---- the product of two momenta over a table

table_at-place : (e : ℕ) (t : List ℕ) (x y : ℕ) → table_at e t (suc x) (suc y) ≡ get_or t (place_of e (min x y) (max x y)) 0
table_at-place e t x y =
    ap (λ m. get_or t (place_of e m (max (suc x) (suc y) - 1)) 0) (let least : min (suc x) (suc y) - 1 ≡ min x y = omega arith in least)
    ∙ ap (λ n. get_or t (place_of e (min x y) n) 0) (let most : max (suc x) (suc y) - 1 ≡ max x y = omega arith in most)

coefficient_at-residue : (p : ℕ) (momentum : List ℤ) (x : ℕ) → x < length momentum → coefficient_at p momentum x ≡ get_or (map (residue_of p) momentum) x 0
coefficient_at-residue p momentum x h = sym (get_or-map (residue_of p) momentum x (pos 0) 0 h)

expanded-double : (p e : ℕ) (left right : List ℤ) (t : List ℕ) → length left ≡ e → length right ≡ e → expanded p e left right t ≡ double e (λ k. get_or t k 0) (map (residue_of p) left) (map (residue_of p) right)
expanded-double p e left right t h g =
    sum_below-equal e (λ x. sum_below e (λ y. coefficient_at p left x * coefficient_at p right y * table_at e t (suc x) (suc y)))
    (λ x. sum_below e (λ y. term e (λ k. get_or t k 0) (map (residue_of p) left) (map (residue_of p) right) x y)) (λ x within.
    sum_below-equal e (λ y. coefficient_at p left x * coefficient_at p right y * table_at e t (suc x) (suc y)) (λ y. term e (λ k. get_or t k 0) (map (residue_of p) left) (map (residue_of p) right) x y) (λ y inside.
    ap (λ n. n * coefficient_at p right y * table_at e t (suc x) (suc y)) (coefficient_at-residue p left x (omega arith))
    ∙ ap (λ n. get_or (map (residue_of p) left) x 0 * n * table_at e t (suc x) (suc y)) (coefficient_at-residue p right y (omega arith))
    ∙ ap (λ n. get_or (map (residue_of p) left) x 0 * get_or (map (residue_of p) right) y 0 * n) (table_at-place e t x y)))

pub dot-row_of : (p e : ℕ) (left right : List ℤ) (t : List ℕ) → length left ≡ e → length right ≡ e → dot (row_of p (map (residue_of p) left) (map (residue_of p) right)) t % p ≡ expanded p e left right t % p
dot-row_of p e left right t h g =
    let ls = map (residue_of p) left in
    let rs = map (residue_of p) right in
    ap (λ n. n % p) (dot-weigh (row_of p ls rs) t)
    ∙ weigh-row_of p e ls rs (λ k. get_or t k 0) (length-map left (residue_of p) ∙ h) (length-map right (residue_of p) ∙ g)
    ∙ ap (λ n. n % p) (sym (expanded-double p e left right t h g))
