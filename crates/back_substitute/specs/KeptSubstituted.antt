-- How the outcome of a back substitution is kept: as it is seen, with what ties its parts.
use Rattle.field_word.specs.Residues.{IsModulus}
use Rattle.back_substitute.specs.declared.substitution.Substituted.TheInside.{Inside}
use Rattle.back_substitute.specs.Substitution.{IsSubstitution}
use Rattle.back_substitute.specs.Substituted.{Substituted}

abbrev pub shown : Inside → Substituted
shown a = record { unit = a.unit; modulus = a.modulus; order = a.order; input = a.input.items; below = a.below.items; rows = a.rows.items }

-- the rows are a back substitution of the input
pub record IsKept (a : Inside) : Type 0 where
  pub modulus : IsModulus a.modulus
  pub substitution : IsSubstitution a.modulus a.order a.unit a.input.items a.below.items a.rows.items
