-- The laws of the readings of values.
use Rattle.std.proofs.Common.{◌≡◌, ℕ, List, [], refl, sym, ap, ◌∙◌}
use Rattle.std.proofs.lemmas.Option.{same_Some}
use Rattle.text_tokens.specs.declared.faults.TextKind.{TextKind}
use Rattle.text_tokens.specs.declared.faults.TextKind.TheVariants as text_kind
use Rattle.text_tokens.specs.Tokens.{tokens_of}
use Rattle.text_tokens.proofs.FaultLemmas.{one_fault, no_fault}
use Rattle.rational_expressions.specs.Trees.{Tree}
use Rattle.rational_expressions.specs.Values.{Sum, first, signed, more, Product, one, times, over, plain, literal, sum_tokens, sum_tree, value_blame, IsValueText, IsValue, IsValueFault}
use Rattle.rational_expressions.specs.ValueReader.{SumLead, empty, lone, after, Place, before_atom, before_exponent, behind, Context, sum_with, sum_ending, run}
use Rattle.rational_expressions.proofs.ValueLemmas.{at_place, product_place, sum_place, passes}

-- the sum that ends at a place
sum_at : Place → Sum
sum_at (before_atom b f) = first (one (plain (literal [])))
sum_at (before_exponent f a) = first (one (plain (literal [])))
sum_at (behind f w) = sum_with f w

product_at : (l : SumLead) (p : Product) → sum_at (product_place l p) ≡ sum_ending l p
unfolding sum_at
product_at l (one w) = refl
product_at l (times p w) = refl
product_at l (over p at w) = refl

sum_again : (s : Sum) → sum_at (sum_place s) ≡ s
sum_again (first p) = product_at empty p
sum_again (signed s p) = product_at (lone s) p
sum_again (more m s p) = product_at (after m s) p

-- two sums that are written alike are one
pub same_sum : (s u : Sum) → sum_tokens s ≡ sum_tokens u → s ≡ u
same_sum s u e =
    let places : at_place [] (sum_place s) ≡ at_place [] (sum_place u) = same_Some _ _ (sym (passes s) ∙ ap run e ∙ passes u) in
    sym (sum_again s) ∙ ap (λ (c : Context). sum_at c.place) places ∙ sum_again u

pub one_value : (names : List (List ℕ)) (text : List ℕ) (t u : Tree) → IsValue names text t → IsValue names text u → t ≡ u
one_value names text t u h k =
    h.tree ∙ ap (sum_tree names) (same_sum h.written k.written (h.grammar ∙ sym k.grammar)) ∙ sym k.tree

pub one_value_fault : (names : List (List ℕ)) (text : List ℕ) (a b : ℕ) (j k : TextKind) → IsValueFault names text a j → IsValueFault names text b k → (a ≡ b) × (j ≡ k)
one_value_fault names text a b j k h g = one_fault IsValueText (value_blame names) text_kind.BadExpression _ [] (tokens_of text) a b j k h g

pub no_value_fault : (names : List (List ℕ)) (text : List ℕ) (t : Tree) (at : ℕ) (kind : TextKind) → IsValue names text t → IsValueFault names text at kind → ⊥
no_value_fault names text t at kind h f =
    no_fault IsValueText (value_blame names) text_kind.BadExpression _ [] (tokens_of text) at kind (h.written, h.grammar) h.blameless f
