-- The items of an expression, run on a stack of values. Private contracts speak of it.
use Rattle.std.specs.Prelude.{◌≡◌, ℕ, ◌%◌, ◌^◌, Ok, List, [], ◌∷◌, slice_index}
use Rattle.rational_expressions.specs.declared.expressions.Item.{Item}
use Rattle.rational_expressions.specs.declared.expressions.Item.TheVariants as item
use Rattle.field_word.specs.Residues.{sum_of, product_of, opposite_of, difference_of}
use Rattle.rational_expressions.specs.Evaluation.{Outcome, After, IsQuotient}

abbrev pub top_value : List ℕ → ℕ
top_value [] = 0
top_value (x ∷ s) = x

-- the outcome of running the items on the values that wait, the last one first
abbrev pub Runs : ℕ → List ℕ → List Item → List ℕ → Outcome → Type 0
Runs p rs [] s r = r ≡ Ok (top_value s)
Runs p rs (item.Number n ∷ is) s r = Runs p rs is (n % p ∷ s) r
Runs p rs (item.Place i ∷ is) s r = Runs p rs is (slice_index rs i ∷ s) r
Runs p rs (item.Negate ∷ is) (x ∷ s) r = Runs p rs is (opposite_of p x ∷ s) r
Runs p rs (item.Add ∷ is) (y ∷ x ∷ s) r = Runs p rs is (sum_of p x y ∷ s) r
Runs p rs (item.Subtract ∷ is) (y ∷ x ∷ s) r = Runs p rs is (difference_of p x y ∷ s) r
Runs p rs (item.Multiply ∷ is) (y ∷ x ∷ s) r = Runs p rs is (product_of p x y ∷ s) r
Runs p rs (item.Divide at ∷ is) (y ∷ x ∷ s) r = (q : Outcome) × IsQuotient p at x y q × After q (λ v o. Runs p rs is (v ∷ s) o) r
Runs p rs (item.Power n ∷ is) (x ∷ s) r = Runs p rs is (x ^ n % p ∷ s) r
Runs p rs (i ∷ is) s r = ⊥
