-- How many values the numeric point of a job with these kinematics gives. The project's own.
use Rattle.std.specs.Prelude.{ℕ, ◌+◌, Option, Some, None, List, length, remove}
use Rattle.kinematics_schema.specs.declared.content.Kinematics.{Kinematics}

-- the dimension, and the invariants but the symbol
abbrev pub others : {A : Type 0} → Option ℕ → List A → List A
others None xs = xs
others (Some place) xs = remove xs place

abbrev pub parameter_count : Kinematics → ℕ
parameter_count kinematics = 1 + length (others kinematics.symbol kinematics.invariants)
