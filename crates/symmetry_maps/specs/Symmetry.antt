-- Symmetries of a family: maps of its loop momenta that permute its denominators, as forms modulo p at a
-- point. Denominators are numbered from 1. Source: Kira, arXiv:1705.05610.
use Rattle.std.specs.Prelude.{◌≡◌, ℕ, ◌-◌, ◌<◌, ◌≤◌, ◌⊎◌, ⊤, List, length, Some}
use Rattle.std.specs.List.{slice_get}
use Rattle.propagators.specs.Forms.{Form}
use Rattle.propagators.specs.Sums.{entry}
use Rattle.symmetry_maps.specs.declared.faults.MapFault.{MapFault}
use Rattle.symmetry_maps.specs.declared.faults.MapFault.TheVariants.{NotAPermutation, OutOfMemory}
use Rattle.symmetry_maps.specs.Permutation.{IsPermutationOf}

-- the form of the list that has this number, from 1
pub record IsFormAt (forms : List Form) (form : Form) (number : ℕ) : Type 0 where
  pub from_1 : 1 ≤ number
  pub is : slice_get forms (number - 1) ≡ Some form

-- of the images and the forms of the denominators: the image of D_j is the form D_k
pub record Sends (images forms : List Form) (j k : ℕ) : Type 0 where
  pub form : Form
  pub image : IsFormAt images form j
  pub denominator : IsFormAt forms form k

-- σ(1) .. σ(N) is a permutation for which the image of each D_j is the form D_σ(j)
pub record IsSymmetry (images forms : List Form) (places : List ℕ) : Type 0 where
  pub permutation : IsPermutationOf (length forms) places
  pub sends : (j : ℕ) → 1 ≤ j → j ≤ length forms → Sends images forms j (entry places j)

-- the image of D_j is the form of a denominator to which an earlier one was sent
pub record IsSecond (images forms : List Form) (j : ℕ) : Type 0 where
  pub earlier : ℕ
  pub before : earlier < j
  pub place : ℕ
  pub first : Sends images forms earlier place
  pub again : Sends images forms j place

-- the image of D_j is the form of no denominator, or of one to which an earlier one was sent
abbrev pub IsAtFault : List Form → List Form → ℕ → Type 0
IsAtFault images forms j = ((k : ℕ) → ¬ (Sends images forms j k)) ⊎ IsSecond images forms j

-- the first denominator at fault
pub record IsFirstAtFault (images forms : List Form) (j : ℕ) : Type 0 where
  pub from_1 : 1 ≤ j
  pub within : j ≤ length forms
  pub fault : IsAtFault images forms j
  pub first : (i : ℕ) → 1 ≤ i → i < j → ¬ (IsAtFault images forms i)

-- of memory nothing is said
abbrev pub HasCause : List Form → List Form → MapFault → Type 0
HasCause images forms (NotAPermutation denominator) = IsFirstAtFault images forms denominator
HasCause images forms OutOfMemory = ⊤
