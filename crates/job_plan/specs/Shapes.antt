-- What the bound on the terms has to know of the families. The project's own.
use Rattle.std.specs.Prelude.{ℕ, List, map, length}
use Rattle.integral_index.specs.Integral.{Integral}
use Rattle.kinematics_schema.specs.declared.content.Kinematics.{Kinematics}
use Rattle.family_schema.specs.declared.content.Family.{Family}
use Rattle.family_schema.specs.Scope.{independent_count}
use Rattle.job_equations.specs.declared.bounds.EquationShape.{EquationShape}
use Rattle.job_equations.specs.Bounds.{term_bound}

-- its loop momenta, the independent external momenta, its width, and its symmetries
abbrev pub equation_shape_of : Kinematics → Family → EquationShape
equation_shape_of kinematics family = record {
  loops = length family.loops;
  externals = independent_count kinematics;
  width = family.width;
  symmetries = length family.symmetries;
}

-- the bound on the terms of the equations of seeds
abbrev pub terms_of : Kinematics → List Family → List Integral → ℕ
terms_of kinematics families seeds = term_bound (map (equation_shape_of kinematics) families) seeds
