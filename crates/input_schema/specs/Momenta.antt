-- A momentum whose conserved momentum is replaced by its sum of the others. The project's own.
use Rattle.std.specs.Prelude.{ℕ, ℤ, Bool, if◌then◌else◌, ◌&&◌, ◌+ℤ◌, ◌*ℤ◌, pos, negsuc, List, [], ◌∷◌, Ok, remove, slice_index_or, int_le}
use Rattle.std.specs.List.{list_all}
use Rattle.input_schema.specs.declared.faults.File.{File}
use Rattle.input_schema.specs.declared.faults.InputKind.TheVariants.{OutOfRange}
use Rattle.input_schema.specs.Readings.{Outcome, refuse}

abbrev pub coefficient_at : List ℤ → ℕ → ℤ
coefficient_at momentum place = slice_index_or momentum place (pos 0)

-- the first momentum, and so often the second
abbrev pub plus_times : ℤ → List ℤ → List ℤ → List ℤ
plus_times factor [] image = []
plus_times factor (c ∷ cs) [] = []
plus_times factor (c ∷ cs) (i ∷ is) = (c +ℤ (factor *ℤ i)) ∷ plus_times factor cs is

-- The momentum at this place, counted from 0, is taken out, and the image comes as often as it stood there.
abbrev pub substituted : ℕ → List ℤ → List ℤ → List ℤ
substituted place image momentum = plus_times (coefficient_at momentum place) (remove momentum place) image

-- from -1000 to 1000
abbrev pub is_small : ℤ → Bool
is_small c = int_le (negsuc 999) c && int_le c (pos 1000)

abbrev pub checked : File → ℕ → List ℤ → Outcome (List ℤ)
checked file line momentum = if list_all is_small momentum then Ok momentum else refuse file line OutOfRange

-- the same where each coefficient is small then
abbrev pub replaced : File → ℕ → ℕ → List ℤ → List ℤ → Outcome (List ℤ)
replaced file line place image momentum = checked file line (substituted place image momentum)
