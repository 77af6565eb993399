-- Sums of multiples of forms and of 1. Source: Kira, arXiv:1705.05610, which writes scalar products in denominators.
use Rattle.std.specs.Prelude.{◌≡◌, ℕ, suc, ◌+◌, ◌%◌, ◌<◌, List, length, map, drop, slice_index, All}
use Rattle.matrix_elimination.specs.Vectors.{IsVector, dot, column}
use Rattle.propagators.specs.Forms.{Form}

-- the coefficients of the scalar products, one list for each form
abbrev pub rows_of : List Form → List (List ℕ)
rows_of forms = map (λ form. form.products) forms

abbrev pub constants_of : List Form → List ℕ
constants_of forms = map (λ form. form.constant) forms

-- c_0 + Σ_k c_k·D_k, of residues c_0 .. c_N and the forms D_1 .. D_N, is this form
pub record IsCombination (p : ℕ) (forms : List Form) (form : Form) (c : List ℕ) : Type 0 where
  pub vector : IsVector p (suc (length forms)) c
  pub products : (x : ℕ) → x < length form.products → slice_index form.products x ≡ dot (drop 1 c) (column x (rows_of forms)) % p
  pub constant : form.constant ≡ (slice_index c 0 + dot (drop 1 c) (constants_of forms)) % p

-- the forms times the entries of the vector sum to a constant: each scalar product cancels
abbrev pub SumToConstant : ℕ → List Form → List ℕ → Type 0
SumToConstant p forms vector = (x : ℕ) → dot vector (column x (rows_of forms)) % p ≡ 0

-- no vector of residues other than zero makes the forms sum to a constant
abbrev pub AreIndependent : ℕ → List Form → Type 0
AreIndependent p forms = (vector : List ℕ) → IsVector p (length forms) vector → SumToConstant p forms vector → All (λ entry. entry ≡ 0) vector
