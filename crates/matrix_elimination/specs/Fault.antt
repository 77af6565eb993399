-- Why an elimination ended early.
use Rattle.std.specs.Prelude.{⊤, ℕ, ◌<◌}
use Rattle.std.specs.Int.{◌∣◌}
use Rattle.matrix_elimination.specs.declared.elimination.EliminationFault.{EliminationFault}
use Rattle.matrix_elimination.specs.declared.elimination.EliminationFault.TheVariants.{Composite, OutOfMemory}

-- the divisor shows that p isn't prime
pub record IsProperDivisor (p divisor : ℕ) : Type 0 where
  pub above : 1 < divisor
  pub below : divisor < p
  pub divides : divisor ∣ p

-- a composite modulus is named by a divisor between 1 and the modulus. Of memory nothing is said
abbrev pub HasCause : ℕ → EliminationFault → Type 0
HasCause p (Composite fault) = IsProperDivisor p fault.divisor
HasCause p OutOfMemory = ⊤
