-- The law of seeded equations. The project's own.
use Rattle.std.specs.Prelude.{◌≡◌, ℕ, List}
use Rattle.integral_index.specs.Integral.{Integral}
use Rattle.integral_index.specs.declared.Order.{Order}
use Rattle.propagators.specs.Basis.{Basis}
use Rattle.sparse_row.specs.Row.{Row}
use Rattle.job_equations.specs.Equations.{AreEquations}

-- two lists that are the equations of the same seeds are equal
abbrev pub OneListOfEquations : Type 0
OneListOfEquations =
    (bases : List Basis) (symmetries : List (List (List ℕ))) (zeros : List (List ℕ)) (d : ℕ) (order : Order) (seeds : List Integral) (rows others : List Row)
    → AreEquations bases symmetries zeros d order seeds rows → AreEquations bases symmetries zeros d order seeds others → rows ≡ others
