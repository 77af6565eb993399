-- Laws of the readings of momenta. The project's own.
use Rattle.std.specs.Prelude.{◌≡◌, ℕ, ℤ, List}
use Rattle.text_tokens.specs.declared.faults.TextKind.{TextKind}
use Rattle.momentum_sums.specs.Momenta.{IsMomentum, IsMomentumFault}

-- a text has at most one reading as a momentum
abbrev pub ReadsAsOneMomentum : Type 0
ReadsAsOneMomentum = (names : List (List ℕ)) (text : List ℕ) (cs ds : List ℤ) → IsMomentum names text cs → IsMomentum names text ds → cs ≡ ds

-- it has at most one first fault
abbrev pub HasOneMomentumFault : Type 0
HasOneMomentumFault =
    (names : List (List ℕ)) (text : List ℕ) (a b : ℕ) (j k : TextKind) → IsMomentumFault names text a j → IsMomentumFault names text b k → (a ≡ b) × (j ≡ k)

-- and never both
abbrev pub MomentumHasNoFault : Type 0
MomentumHasNoFault = (names : List (List ℕ)) (text : List ℕ) (cs : List ℤ) (at : ℕ) (kind : TextKind) → IsMomentum names text cs → IsMomentumFault names text at kind → ⊥
