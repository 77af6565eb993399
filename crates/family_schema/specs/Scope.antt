-- The momenta that the texts of a family may name, and how many denominators it has. The project's own.
use Rattle.std.specs.Prelude.{ℕ, ℤ, ◌+◌, ◌*◌, ◌/◌, ◌^◌, ◌-◌, pos, Option, Some, None, List, ◌++◌, length, replicate, slice_set}
use Rattle.yaml_text.specs.Lines.{Bytes}
use Rattle.kinematics_schema.specs.declared.content.Conserved.{Conserved}
use Rattle.kinematics_schema.specs.declared.content.Kinematics.{Kinematics}
use Rattle.kinematics_schema.specs.Independent.{independents}
use Rattle.family_schema.specs.declared.scope.Scope.{Scope}

-- behind so many loop momenta
abbrev pub shifted : ℕ → Option Conserved → Option Conserved
shifted count None = None
shifted count (Some c) = Some (record { place = count + c.place; image = replicate count (pos 0) ++ c.image })

-- the loop momenta and then all external ones, and the invariants
abbrev pub scope_of : Kinematics → List Bytes → Scope
scope_of k loops = record { loops = loops; names = loops ++ k.externals; conserved = shifted (length loops) k.conserved; invariants = k.invariants }

abbrev pub independent_count : Kinematics → ℕ
independent_count k = length (independents k.conserved k.externals)

-- How many products of two momenta there are with a loop momentum among them: L(L+1)/2 + L*E.
abbrev pub width_of : ℕ → ℕ → ℕ
width_of loops externals = loops * (loops + 1) / 2 + loops * externals

-- the sector of all denominators
abbrev pub all_of : ℕ → ℕ
all_of width = 2 ^ width - 1

-- a loop momentum by itself, over so many momenta
abbrev pub unit : ℕ → ℕ → List ℤ
unit count place = slice_set (replicate count (pos 0)) place (pos 1)
