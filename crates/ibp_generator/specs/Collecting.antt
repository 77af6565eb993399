-- What the steps of collecting terms promise each other. No public call cites this file.
use Rattle.std.specs.Prelude.{◌≡◌, ◌≢◌, ℕ, ◌+◌, ◌-◌, ◌%◌, ◌<◌, List, length, AllPairs, slice_index_or, slice_set}
use Rattle.std.specs.declared.cmp.Ordering.{Ordering}
use Rattle.std.specs.declared.cmp.Ordering.TheVariants.{Less}
use Rattle.integral_index.specs.declared.Order.{Order}
use Rattle.integral_index.specs.Integral.{Integral}
use Rattle.integral_index.specs.Order.{compare}
use Rattle.sparse_row.specs.declared.Term.{Term}
use Rattle.sparse_row.specs.Terms.{AllBelow, IsAbove, coefficient_at, total_at}
use Rattle.propagators.specs.Basis.{Basis}
use Rattle.propagators.specs.Sums.{sum_to}
use Rattle.ibp_generator.specs.Equation.{AreDerived, denominator_sum, unless_zero}

-- terms from the greatest integral to the least
abbrev pub downwards : Order → Term → Term → Ordering
downwards order term other = compare order other.integral term.integral

-- the totals of the one list are those of the other, modulo p
abbrev pub SameTotals : ℕ → List Term → List Term → Type 0
SameTotals p terms others = (x : Integral) → total_at x terms % p ≡ total_at x others % p

-- where the list isn't empty, its last term isn't of a lesser integral
abbrev pub IsNoLess : Order → List Term → Term → Type 0
IsNoLess order kept term = (d : Term) → 0 < length kept → compare order (slice_index_or kept (length kept - 1) d).integral term.integral ≢ Less

-- terms of distinct integrals, which descend, and to which a term was added that is of the last integral or comes after it
pub record IsAdded (p : ℕ) (order : Order) (old : List Term) (term : Term) (new : List Term) : Type 0 where
  pub descend : AllPairs (IsAbove order) new
  pub below : AllBelow p new
  pub totals : (x : Integral) → total_at x new % p ≡ (total_at x old + coefficient_at x term) % p
  pub some : 0 < length new
  pub last : (d : Term) → (slice_index_or new (length new - 1) d).integral ≡ term.integral

-- the last term of the list has a coefficient more, modulo p
abbrev pub IsLastRaised : ℕ → List Term → ℕ → List Term → Type 0
IsLastRaised p old addend new =
    (d : Term) → let last = slice_index_or old (length old - 1) d in
    new ≡ slice_set old (length old - 1) (record { integral = last.integral; coefficient = (last.coefficient + addend) % p })

-- to the totals of a list this was added at each integral whose sector isn't zero
abbrev pub Gains : List ℕ → List Term → List Term → (Integral → ℕ) → Type 0
Gains zeros old new f = (x : Integral) → total_at x new ≡ total_at x old + unless_zero zeros x (f x)

-- the terms of the first n denominators were appended
pub record AreAppended (basis : Basis) (i q : ℕ) (seed : Integral) (zeros : List ℕ) (n : ℕ) (old new : List Term) : Type 0 where
  pub residues : ℕ → List ℕ
  pub derived : AreDerived basis i q n residues
  pub gains : Gains zeros old new (λ x. sum_to n (λ j. denominator_sum basis.point.modulus seed (length basis.denominators) (residues j) j x))
