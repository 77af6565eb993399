-- Rows as lists of terms, from the greatest integral to the least.
use Rattle.std.specs.Prelude.{◌≡◌, ◌≢◌, ℕ, ◌+◌, ◌*◌, ◌%◌, ◌<◌, ◌==◌, if◌then◌else◌, List, [], ◌∷◌, ◌++◌, map, All, AllPairs, sum_by}
use Rattle.std.specs.FinMap as finite
use Rattle.std.specs.Ordering.{eq_by_cmp}
use Rattle.std.specs.declared.cmp.Ordering.TheVariants.{Greater}
use Rattle.integral_index.specs.declared.Order.{Order}
use Rattle.integral_index.specs.Integral.{Integral}
use Rattle.integral_index.specs.Order.{by_fields, compare}
use Rattle.sparse_row.specs.declared.Term.{Term}
use Rattle.sparse_row.specs.Row.{Row, coefficient}

-- the coefficient of the term where it is one of x, and else 0
abbrev pub coefficient_at : Integral → Term → ℕ
coefficient_at x term = if eq_by_cmp by_fields x term.integral then term.coefficient else 0

-- the sum of the coefficients of the terms of x
abbrev pub total_at : Integral → List Term → ℕ
total_at x terms = sum_by (λ term. coefficient_at x term) terms

-- the one term is of a greater integral than the other
abbrev pub IsAbove : Order → Term → Term → Type 0
IsAbove order term other = compare order term.integral other.integral ≡ Greater

-- the integrals of the terms descend, and no coefficient is 0
pub record IsTermList (order : Order) (terms : List Term) : Type 0 where
  pub descend : AllPairs (IsAbove order) terms
  pub no_zero : All (λ term. term.coefficient ≢ 0) terms

-- the coefficients are residues modulo p
abbrev pub AllBelow : ℕ → List Term → Type 0
AllBelow p terms = All (λ term. term.coefficient < p) terms

abbrev pub entry_of : Term → Integral × ℕ
entry_of term = (term.integral, term.coefficient)

-- the row of these terms
abbrev pub row_of : Order → List Term → Row
row_of order terms = record { order = order; terms = finite.from_entries (map entry_of terms) }

-- the integrals of the row's terms stand behind the others
pub record ArePushed (row : Row) (others pushed : List Integral) : Type 0 where
  pub terms : List Term
  pub list : IsTermList row.order terms
  pub value : row_of row.order terms ≡ row
  pub coefficients : (x : Integral) → coefficient row x ≡ total_at x terms
  pub behind : pushed ≡ others ++ map (λ term. term.integral) terms

-- the term times a factor, modulo p
abbrev pub scaled_term : ℕ → ℕ → Term → Term
scaled_term p factor term = record { integral = term.integral; coefficient = (term.coefficient * factor) % p }

-- the term plus the multiple of another of the same integral, modulo p
abbrev pub summed_term : ℕ → ℕ → Term → Term → Term
summed_term p factor term other = record { integral = term.integral; coefficient = (term.coefficient + (other.coefficient * factor) % p) % p }

-- the list of the term, without a term of coefficient 0
abbrev pub kept_term : Term → List Term
kept_term term = if term.coefficient == 0 then [] else term ∷ []
