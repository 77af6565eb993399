-- The value of an expression modulo p: operands first, from left to right, up to the first division that
-- fails. The project's own.
use Rattle.std.specs.Prelude.{◌≡◌, ◌≢◌, ℕ, ◌%◌, ◌^◌, Result, Ok, Err, List, slice_index}
use Rattle.std.specs.Int.{IsGcd}
use Rattle.field_word.specs.Residues.{sum_of, product_of, opposite_of, difference_of, IsInverse}
use Rattle.rational_expressions.specs.declared.faults.ValueFault.{ValueFault}
use Rattle.rational_expressions.specs.declared.faults.ValueFault.TheVariants as value_fault
use Rattle.rational_expressions.specs.Trees.{Tree, number, place, negative, sum, difference, product, quotient, power}

-- a value or a fault
abbrev pub Outcome : Type 0
Outcome = Result ℕ ValueFault

-- what follows a value; a fault stays
abbrev pub After : Outcome → (ℕ → Outcome → Type 0) → Outcome → Type 0
After (Ok x) P r = P x r
After (Err e) P r = r ≡ Err e

-- The outcome of a division of x by y: the product of x with y's inverse; the fault at its slash where y
-- is 0; else, where y has no inverse, the greatest common divisor of y and p.
abbrev pub IsQuotient : ℕ → ℕ → ℕ → ℕ → Outcome → Type 0
IsQuotient p at x y (Ok v) = (z : ℕ) × IsInverse p y z × (v ≡ product_of p x z)
IsQuotient p at x y (Err (value_fault.ZeroDivisor a)) = (y ≡ 0) × (a ≡ at)
IsQuotient p at x y (Err (value_fault.Composite c)) = (y ≢ 0) × IsGcd y p c.divisor × (c.divisor ≢ 1)

-- The outcome of a tree, where the name at each place has the residue at that place, and 0 behind the
-- last residue. The power 0 is 1.
abbrev pub HasOutcome : ℕ → List ℕ → Tree → Outcome → Type 0
HasOutcome p rs (number n) r = r ≡ Ok (n % p)
HasOutcome p rs (place i) r = r ≡ Ok (slice_index rs i)
HasOutcome p rs (negative t) r = (a : Outcome) × HasOutcome p rs t a × After a (λ x q. q ≡ Ok (opposite_of p x)) r
HasOutcome p rs (sum t u) r =
    (a : Outcome) × HasOutcome p rs t a × After a (λ x q. (b : Outcome) × HasOutcome p rs u b × After b (λ y o. o ≡ Ok (sum_of p x y)) q) r
HasOutcome p rs (difference t u) r =
    (a : Outcome) × HasOutcome p rs t a × After a (λ x q. (b : Outcome) × HasOutcome p rs u b × After b (λ y o. o ≡ Ok (difference_of p x y)) q) r
HasOutcome p rs (product t u) r =
    (a : Outcome) × HasOutcome p rs t a × After a (λ x q. (b : Outcome) × HasOutcome p rs u b × After b (λ y o. o ≡ Ok (product_of p x y)) q) r
HasOutcome p rs (quotient at t u) r =
    (a : Outcome) × HasOutcome p rs t a × After a (λ x q. (b : Outcome) × HasOutcome p rs u b × After b (λ y o. IsQuotient p at x y o) q) r
HasOutcome p rs (power t n) r = (a : Outcome) × HasOutcome p rs t a × After a (λ x q. q ≡ Ok (x ^ n % p)) r
