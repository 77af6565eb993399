-- What the steps of the check and of an equation promise each other. No public call cites this file.
use Rattle.std.specs.Prelude.{◌≡◌, ℕ, ◌+◌, ◌%◌, ◌⊎◌, true, false, List, Some, All, Contains}
use Rattle.std.specs.List.{slice_get}
use Rattle.integral_index.specs.Integral.{Integral, sector_of}
use Rattle.integral_index.specs.ZeroSectors.{is_zero_sector}
use Rattle.propagators.specs.Forms.{Form}
use Rattle.sparse_row.specs.declared.Term.{Term}
use Rattle.sparse_row.specs.Row.{Row, coefficient}
use Rattle.sparse_row.specs.Terms.{coefficient_at}
use Rattle.symmetry_maps.specs.Symmetry.{IsFormAt}

-- the forms have the momenta of the first
abbrev pub AreAlike : Form → List Form → Type 0
AreAlike image forms = All (λ form. (image.loops ≡ form.loops) × (image.externals ≡ form.externals)) forms

-- no two of the forms are equal
abbrev pub AreApart : List Form → Type 0
AreApart forms = (i j : ℕ) (form : Form) → slice_get forms i ≡ Some form → slice_get forms j ≡ Some form → i ≡ j

-- the form isn't in the list
abbrev pub IsNoForm : List Form → Form → Type 0
IsNoForm forms form = (number : ℕ) → ¬ (IsFormAt forms form number)

-- the form has this number in the list, and the number isn't taken
pub record IsFree (forms : List Form) (taken : List ℕ) (form : Form) (number : ℕ) : Type 0 where
  pub found : IsFormAt forms form number
  pub free : ¬ (Contains taken number)

-- the form has this number in the list, and the number is taken
pub record IsTaken (forms : List Form) (taken : List ℕ) (form : Form) : Type 0 where
  pub number : ℕ
  pub found : IsFormAt forms form number
  pub taken_before : Contains taken number

abbrev pub IsNotFree : List Form → List ℕ → Form → Type 0
IsNotFree forms taken form = IsNoForm forms form ⊎ IsTaken forms taken form

-- the row has a term more, modulo p, unless the sector of its integral is zero
pub record IsWithTerm (p : ℕ) (zeros : List ℕ) (old : Row) (term : Term) (new : Row) : Type 0 where
  pub sums : (x : Integral) → is_zero_sector zeros (sector_of x.indices) ≡ false → coefficient new x ≡ (coefficient old x + coefficient_at x term) % p
  pub left_out : (x : Integral) → is_zero_sector zeros (sector_of x.indices) ≡ true → coefficient new x ≡ coefficient old x
