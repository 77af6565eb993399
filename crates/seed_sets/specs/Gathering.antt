-- How a list of integrals grows, where only its members count.
use Rattle.std.specs.Prelude.{◌↔◌, ℕ, ◌<◌, ◌⊎◌, List, Contains}
use Rattle.integral_index.specs.Integral.{Integral}

-- x is in the list, or is of the kind
abbrev pub IsAmong : List Integral → (Integral → Type 0) → Integral → Type 0
IsAmong old Kind x = Contains old x ⊎ Kind x

-- the members are those that were there and those of a kind
abbrev pub Gains : List Integral → List Integral → (Integral → Type 0) → Type 0
Gains old new Kind = (x : Integral) → Contains new x ↔ IsAmong old Kind x

-- x is of one of the kinds before this one
abbrev pub IsBefore : ℕ → (ℕ → Integral → Type 0) → Integral → Type 0
IsBefore n Kinds x = (k : ℕ) × (k < n) × Kinds k x
