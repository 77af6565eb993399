-- The law of equations. The project's own.
use Rattle.std.specs.Prelude.{◌≡◌, ℕ, List}
use Rattle.integral_index.specs.declared.Order.{Order}
use Rattle.integral_index.specs.Integral.{Integral}
use Rattle.propagators.specs.Basis.{Basis}
use Rattle.sparse_row.specs.Row.{Row}
use Rattle.ibp_generator.specs.Equation.{IsEquation}

-- two rows that are the equation of one seed, one loop momentum and one momentum are equal
abbrev pub OneEquation : Type 0
OneEquation =
    (basis : Basis) (d i q : ℕ) (seed : Integral) (zeros : List ℕ) (order : Order) (row other : Row)
    → IsEquation basis d i q seed zeros order row → IsEquation basis d i q seed zeros order other → row ≡ other
