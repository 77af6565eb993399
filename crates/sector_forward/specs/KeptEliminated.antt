-- How the outcome of a forward elimination is kept: as it is seen, with what ties its parts.
use Rattle.field_word.specs.Residues.{IsModulus}
use Rattle.sector_forward.specs.declared.elimination.Eliminated.TheInside.{Inside}
use Rattle.sector_forward.specs.Elimination.{IsElimination}
use Rattle.sector_forward.specs.Eliminated.{Eliminated}

abbrev pub shown : Inside → Eliminated
shown a = record { unit = a.unit; modulus = a.modulus; order = a.order; input = a.input.items; rows = a.rows.items; rest = a.rest.items }

-- the rows and the rest are an elimination of the input
pub record IsKept (a : Inside) : Type 0 where
  pub modulus : IsModulus a.modulus
  pub elimination : IsElimination a.modulus a.order a.unit a.input.items a.rows.items a.rest.items
