-- The bound on the terms of seeded equations. The project's own.
use Rattle.std.specs.Prelude.{ℕ, ◌+◌, ◌*◌, ◌==◌, ◌≤◌, List, count_by, sum_by}
use Rattle.std.specs.List.{enumerate_from}
use Rattle.integral_index.specs.Integral.{Integral}
use Rattle.job_equations.specs.declared.bounds.EquationShape.{EquationShape}

-- what a family may have
pub record IsEquationShape (shape : EquationShape) : Type 0 where
  pub loops_from_1 : 1 ≤ shape.loops
  pub few_loops : shape.loops ≤ 6
  pub few_externals : shape.externals ≤ 6
  pub few_denominators : shape.width ≤ 20
  pub few_symmetries : shape.symmetries ≤ 64

-- L·(L + E) + symmetries: a seed has an equation for each loop momentum with each momentum, and one for each symmetry
abbrev pub equations_of_seed : EquationShape → ℕ
equations_of_seed shape = shape.loops * (shape.loops + shape.externals) + shape.symmetries

-- N² + N + 1: an equation has the seed, the seed raised at each place, and these lowered at each place
abbrev pub terms_of_equation : EquationShape → ℕ
terms_of_equation shape = shape.width * shape.width + shape.width + 1

-- how many of the seeds are of this family
abbrev pub seeds_of : ℕ → List Integral → ℕ
seeds_of family seeds = count_by (λ seed. seed.family == family) seeds

-- the sum over the families of their seeds, times the equations of a seed, times the terms of an equation
abbrev pub term_bound : List EquationShape → List Integral → ℕ
term_bound shapes seeds =
    sum_by (λ family. seeds_of family.0 seeds * (equations_of_seed family.1 * terms_of_equation family.1)) (enumerate_from 0 shapes)
