-- Forms: what a product of two momenta is, written in the scalar products that have a loop momentum.
-- Momenta are numbered from 1: the loop momenta first, then the independent external ones. Source: Kira, arXiv:1705.05610.
use Rattle.std.specs.Prelude.{◌≡◌, ℕ, zero, suc, ◌+◌, ◌-◌, ◌*◌, ◌/◌, ◌%◌, ◌<◌, nat_lt, ◌==◌, ◌&&◌, ◌||◌, if◌then◌else◌, List, [], ◌∷◌, ◌++◌, length, map, All}
use Rattle.kinematics.specs.Points.{Point, product_at}
use Rattle.propagators.specs.Sums.{sum_to, entry}

-- A form of L loop momenta and E external ones: a residue for each scalar product (i, q) with i ≤ L and
-- i ≤ q ≤ L + E, in the order (1, 1), .., (1, L + E), (2, 2), .., and a constant.
pub record Form : Type 0 where
  pub loops : ℕ
  pub externals : ℕ
  pub products : List ℕ
  pub constant : ℕ

-- (i, i), (i, i + 1), .., so many of them
abbrev pub pairs_with : ℕ → ℕ → List (ℕ × ℕ)
pairs_with i zero = []
pairs_with i (suc count) = pairs_with i count ++ (i, i + count) ∷ []

-- the scalar products of the loop momenta, the given number of them, with all momenta, as many as the width
abbrev pub scalar_products : ℕ → ℕ → List (ℕ × ℕ)
scalar_products width zero = []
scalar_products width (suc i) = scalar_products width i ++ pairs_with (suc i) (width - i)

-- the expanded product of two momenta: each coefficient of the left times each of the right times the value
-- of the scalar product of their two momenta
abbrev pub expanded : List ℕ → List ℕ → (ℕ → ℕ → ℕ) → ℕ
expanded left right value = sum_to (length left) (λ x. sum_to (length right) (λ y. entry left x * entry right y * value x y))

-- 1 where the product of the momenta x and y is the scalar product of i and q, and else 0
abbrev pub is_product : ℕ → ℕ → ℕ → ℕ → ℕ
is_product i q x y = if (x == i && y == q) || (x == q && y == i) then 1 else 0

-- the product of the momenta x and y where both are external, by the point, and else 0
abbrev pub external_product : ℕ → Point → ℕ → ℕ → ℕ
external_product loops point x y = if nat_lt loops x && nat_lt loops y then product_at point (x - loops) (y - loops) else 0

-- the product of two momenta, given by their residues
abbrev pub product_form : ℕ → Point → List ℕ → List ℕ → Form
product_form loops point left right = record {
  loops = loops;
  externals = point.externals;
  products = map (λ pair. expanded left right (is_product pair.0 pair.1) % point.modulus) (scalar_products (loops + point.externals) loops);
  constant = expanded left right (external_product loops point) % point.modulus;
}

-- the form times a number
abbrev pub scaled_form : ℕ → ℕ → Form → Form
scaled_form p factor form = record form {
  products = map (λ c. (factor * c) % p) form.products;
  constant = (factor * form.constant) % p;
}

abbrev pub sum_of_lists : ℕ → List ℕ → List ℕ → List ℕ
sum_of_lists p (x ∷ xs) (y ∷ ys) = ((x + y) % p) ∷ sum_of_lists p xs ys
sum_of_lists p [] ys = []
sum_of_lists p (x ∷ xs) [] = []

-- the sum of two forms of the same momenta
abbrev pub sum_form : ℕ → Form → Form → Form
sum_form p form other = record form {
  products = sum_of_lists p form.products other.products;
  constant = (form.constant + other.constant) % p;
}

-- how many scalar products there are of L loop momenta and E external ones
abbrev pub product_total : ℕ → ℕ → ℕ
product_total loops externals = loops * (loops + 1) / 2 + loops * externals

-- a form of these momenta, of residues
pub record IsForm (p loops externals : ℕ) (form : Form) : Type 0 where
  pub loops_are : form.loops ≡ loops
  pub externals_are : form.externals ≡ externals
  pub size : length form.products ≡ product_total loops externals
  pub products : All (λ c. c < p) form.products
  pub constant : form.constant < p
