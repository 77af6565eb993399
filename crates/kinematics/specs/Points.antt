-- The products of the independent external momenta, which are numbered from 1. The project's own.
use Rattle.std.specs.Prelude.{◌≡◌, ℕ, zero, suc, ◌+◌, ◌-◌, ◌<◌, ◌≤◌, min, max, List, length, slice_index, All, refl}
use Rattle.std.specs.Coded.{Coded, code_by, coded×, coded_ℕ, coded_list}
use Rattle.field_word.specs.Residues.{IsModulus}

-- The products stand in the order (1,1), (1,2), .., (1,E), (2,2), ..
pub record Point : Type 0 where
  pub modulus : ℕ
  pub externals : ℕ
  pub products : List ℕ

-- a point is stored as the fields of it
abbrev pub point_code : Coded Point
point_code =
    code_by (ℕ × (ℕ × List ℕ)) (coded× coded_ℕ (coded× coded_ℕ (coded_list coded_ℕ)))
    (λ point. (point.modulus, (point.externals, point.products))) (λ t. record { modulus = t.0; externals = t.1.0; products = t.1.1 }) (λ _. refl)

-- how many products there are of this many momenta
abbrev pub product_count : ℕ → ℕ
product_count zero = 0
product_count (suc externals) = suc externals + product_count externals

-- a table of the products of this many momenta: one residue for each
pub record IsTable (p externals : ℕ) (products : List ℕ) : Type 0 where
  pub size : length products ≡ product_count externals
  pub below : All (λ product. product < p) products

-- How many products stand before that of the momenta x ≤ y, counted from 0: those of the first momentum,
-- of which each momentum gives one, and then those of the others.
abbrev pub place_of : ℕ → ℕ → ℕ → ℕ
place_of externals zero y = y
place_of externals (suc x) y = externals + place_of (externals - 1) x (y - 1)

-- the product of the momenta with the numbers x and y, in whatever order they are named
abbrev pub table_at : ℕ → List ℕ → ℕ → ℕ → ℕ
table_at externals products x y = slice_index products (place_of externals (min x y - 1) (max x y - 1))

abbrev pub product_at : Point → ℕ → ℕ → ℕ
product_at point x y = table_at point.externals point.products x y

-- a table of at most 6 momenta modulo an odd number from 3 on
pub record IsPoint (point : Point) : Type 0 where
  pub modulus : IsModulus point.modulus
  pub few : point.externals ≤ 6
  pub table : IsTable point.modulus point.externals point.products
