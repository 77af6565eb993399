-- How a point is kept: as it is seen.
use Rattle.kinematics.specs.declared.points.Point.TheInside.{Inside}
use Rattle.kinematics.specs.Points.{Point, IsPoint}

abbrev pub shown : Inside → Point
shown a = record { modulus = a.modulus; externals = a.externals; products = a.products.items }

abbrev pub IsKept : Inside → Type 0
IsKept a = IsPoint (shown a)
