-- How a basis is kept: its denominators with the elimination of their forms, and the derivatives.
use Rattle.std.specs.Prelude.{◌≡◌, ℕ, ◌+◌, ◌*◌, ◌/◌, ◌%◌, ◌<◌, ◌≤◌, List, [], length, All}
use Rattle.std.specs.List.{slice_index_or}
use Rattle.kinematics.specs.Points.{IsPoint}
use Rattle.propagators.specs.declared.frames.Frame.TheInside.{Inside}
use Rattle.propagators.specs.Forms.{product_total}
use Rattle.propagators.specs.Denominators.{IsDenominator}
use Rattle.propagators.specs.Inverses.{IsInverted}
use Rattle.propagators.specs.Basis.{Basis, momenta_of, forms_of, IsDerivative}

-- the basis of a frame
abbrev pub shown : Inside → Basis
shown a = record { loops = a.loops; denominators = a.denominators.items; point = a.point }

pub record IsKept (a : Inside) : Type 0 where
  pub modulus : a.modulus ≡ a.point.modulus
  pub loops_from_1 : 1 ≤ a.loops
  pub few_loops : a.loops ≤ 6
  pub point : IsPoint a.point
  pub count : length a.denominators.items ≡ product_total a.loops a.point.externals
  pub few : length a.denominators.items ≤ 20
  pub denominators : All (IsDenominator a.point.modulus (a.loops + a.point.externals)) a.denominators.items
  pub forms : a.forms.items ≡ forms_of (shown a)
  pub inverted : IsInverted a.point.modulus (forms_of (shown a)) a.elimination

-- The derivatives by the loop momenta, for each of them times the momenta, for each of them of the denominators.
pub record AreDerivatives (basis : Basis) (derivatives : List (List ℕ)) : Type 0 where
  pub count : length derivatives ≡ basis.loops * momenta_of basis * length basis.denominators
  pub each : (k : ℕ) → k < length derivatives →
      IsDerivative basis (k / length basis.denominators / momenta_of basis + 1) (k / length basis.denominators % momenta_of basis + 1) (k % length basis.denominators + 1) (slice_index_or derivatives k [])
