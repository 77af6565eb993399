-- What a refusal of a reduction says.
use Rattle.std.specs.Prelude.{⊤, ℕ, ◌<◌}
use Rattle.std.specs.Int.{◌∣◌}
use Rattle.sector_forward.specs.declared.fault.ForwardFault.{ForwardFault}
use Rattle.sector_forward.specs.declared.fault.ForwardFault.TheVariants.{Composite, OutOfMemory}

-- a composite modulus is named by a divisor between 1 and the modulus. Of memory nothing is said
abbrev pub HasCause : ℕ → ForwardFault → Type 0
HasCause p (Composite fault) = (1 < fault.divisor) × (fault.divisor < p) × (fault.divisor ∣ p)
HasCause p OutOfMemory = ⊤
