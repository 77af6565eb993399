-- The places of products in a table.
use Rattle.std.proofs.Common.{◌≡◌, ℕ, zero, suc, ◌+◌, ◌-◌, ◌*◌, ◌/◌, ◌<◌, ◌≤◌, refl, sym, ap, ◌∙◌, arith}
use Rattle.std.proofs.Math.Nat.{mul-add, add-mul, mul-one, one-mul, zero-mul}
use Rattle.kinematics.specs.Points.{place_of, product_count}

-- a momentum has one product fewer than the momentum before it
pub place_of-double : (x d k : ℕ) → 2 * place_of (x + d) x (x + k) ≡ x * (x + 1 + 2 * d) + 2 * k
place_of-double zero d k = omega (arith, zero-mul (0 + 1 + 2 * d))
place_of-double (suc x) d k =
    let here : place_of (suc x + d) (suc x) (suc x + k) ≡ suc x + d + place_of (x + d) x (x + k) =
    ap (λ e. suc x + d + place_of e x (suc x + k - 1)) (omega arith) ∙ ap (λ y. suc x + d + place_of (x + d) x y) (omega arith) in
    let m = x + 1 + 2 * d in
    let before : 2 * place_of (x + d) x (x + k) ≡ x * m + 2 * k = place_of-double x d k in
    let split : suc x * (m + 1) ≡ x * m + x + m + 1 =
    omega (arith, add-mul x 1 (m + 1), mul-add x m 1, one-mul (m + 1), mul-one x, ap (λ a. a * (m + 1)) (let s : suc x ≡ x + 1 = omega arith in s)) in
    let factor : suc x * (suc x + 1 + 2 * d) ≡ suc x * (m + 1) = ap (λ a. suc x * a) (omega arith) in
    omega (arith, here, before, split, factor)

pub place_of-below : (externals x y : ℕ) → x ≤ y → y < externals → place_of externals x y < product_count externals
place_of-below zero x y h g = absurd (omega arith)
place_of-below (suc e) zero y h g = omega arith
place_of-below (suc e) (suc x) y h g =
    let rest : place_of e x (y - 1) < product_count e = place_of-below e x (y - 1) (omega arith) (omega arith) in
    let same : place_of (suc e - 1) x (y - 1) ≡ place_of e x (y - 1) = ap (λ n. place_of n x (y - 1)) (omega arith) in
    omega (arith, rest, same)

-- the place by the sum of the numbers of products before it
pub place_of-sum : (externals x y : ℕ) → x ≤ y → y < externals → x * (2 * externals + 1 - x) / 2 + y - x ≡ place_of externals x y
place_of-sum externals x y h g =
    let d = externals - x in
    let k = y - x in
    let twice = place_of-double x d k in
    let same : place_of (x + d) x (x + k) ≡ place_of externals x y =
    ap (λ e. place_of e x (x + k)) (omega arith) ∙ ap (λ z. place_of externals x z) (omega arith) in
    let factor : x * (2 * externals + 1 - x) ≡ x * (x + 1 + 2 * d) = ap (λ a. x * a) (omega arith) in
    omega (arith, twice, same, factor)

product_count-double : (e : ℕ) → 2 * product_count e ≡ e * (e + 1)
product_count-double zero = omega (arith, zero-mul (0 + 1))
product_count-double (suc e) =
    let m = e + 1 in
    let first : suc e * (suc e + 1) ≡ m * (m + 1) = ap (λ a. a * (a + 1)) (let s : suc e ≡ e + 1 = omega arith in s) in
    let second : m * (m + 1) ≡ e * m + m + m = omega (arith, mul-add m m 1, mul-one m, add-mul e 1 m, one-mul m) in
    omega (arith, product_count-double e, first, second)

pub product_count-half : (e : ℕ) → e * (e + 1) / 2 ≡ product_count e
product_count-half e = omega (arith, product_count-double e)
