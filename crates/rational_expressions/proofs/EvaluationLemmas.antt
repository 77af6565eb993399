-- What running the items of a tree says of its outcome.
use Rattle.std.proofs.Common.{◌≡◌, ℕ, ◌+◌, ◌%◌, ◌^◌, List, [], ◌∷◌, ◌++◌, Ok, Err, Option, Some, None, length, drop, get_or, ◌<◌, ◌≤◌, refl, sym, ap, subst, ◌∙◌, append_assoc, append-nil}
use Rattle.std.specs.Prelude.{fold, slice_index, IsSome}
use Rattle.std.proofs.lemmas.Option.{none-some}
use Rattle.std.proofs.lemmas.List.{at_drop_more, drop_more, drop_all}
use Rattle.rational_expressions.specs.declared.expressions.Item.{Item}
use Rattle.rational_expressions.specs.declared.expressions.Item.TheVariants as item
use Rattle.field_word.specs.Residues.{sum_of, product_of, opposite_of, difference_of}
use Rattle.rational_expressions.specs.Trees.{Tree, number, place, negative, sum, difference, product, quotient, power, postfix, tree_of, IsProgram, height_after, then_height}
use Rattle.rational_expressions.specs.Evaluation.{Outcome, After, IsQuotient, HasOutcome}
use Rattle.rational_expressions.specs.Execution.{Runs, top_value}

-- the items of a tree, and then others
pub record RunsTree (p : ℕ) (rs : List ℕ) (t : Tree) (rest : List Item) (s : List ℕ) (r : Outcome) : Type 0 where
  pub outcome : Outcome
  pub has : HasOutcome p rs t outcome
  pub goes : After outcome (λ x q. Runs p rs rest (x ∷ s) q) r

-- of a tree with one operand and the item that ends it
one_operand : (p : ℕ) (rs : List ℕ) (t u : Tree) (rest : List Item) (s : List ℕ) (r : Outcome) (i : Item) (f : ℕ → ℕ) →
    ((o : Outcome) → (a : Outcome) × HasOutcome p rs t a × After a (λ x q. q ≡ Ok (f x)) o → HasOutcome p rs u o) →
    ((x : ℕ) (q : Outcome) → Runs p rs (i ∷ rest) (x ∷ s) q → Runs p rs rest (f x ∷ s) q) →
    RunsTree p rs t (i ∷ rest) s r → RunsTree p rs u rest s r
one_operand p rs t u rest s r i f has step h = go h.outcome h.has h.goes
  where
    go : (a : Outcome) → HasOutcome p rs t a → After a (λ x q. Runs p rs (i ∷ rest) (x ∷ s) q) r → RunsTree p rs u rest s r
    go (Ok x) a g = record { outcome = Ok (f x); has = has (Ok (f x)) (Ok x, a, refl); goes = step x r g }
    go (Err e) a g = record { outcome = Err e; has = has (Err e) (Err e, a, refl); goes = g }

-- of a tree with two operands
two_operands : (p : ℕ) (rs : List ℕ) (t u v : Tree) (rest : List Item) (s : List ℕ) (r : Outcome) (i : Item) (Q : ℕ → ℕ → Outcome → Type 0) →
    ((o : Outcome) → (a : Outcome) × HasOutcome p rs t a × After a (λ x q. (b : Outcome) × HasOutcome p rs u b × After b (λ y c. Q x y c) q) o → HasOutcome p rs v o) →
    ((x y : ℕ) (q : Outcome) → Runs p rs (i ∷ rest) (y ∷ x ∷ s) q → (o : Outcome) × Q x y o × After o (λ z c. Runs p rs rest (z ∷ s) c) q) →
    ((x : ℕ) (q : Outcome) → Runs p rs (postfix u ++ i ∷ rest) (x ∷ s) q → RunsTree p rs u (i ∷ rest) (x ∷ s) q) →
    RunsTree p rs t (postfix u ++ i ∷ rest) s r → RunsTree p rs v rest s r
two_operands p rs t u v rest s r i Q has step second h = go h.outcome h.has h.goes
  where
    more : (x : ℕ) → HasOutcome p rs t (Ok x) → (b : Outcome) → HasOutcome p rs u b → After b (λ y q. Runs p rs (i ∷ rest) (y ∷ x ∷ s) q) r → RunsTree p rs v rest s r
    more x a (Ok y) b g =
        let d = step x y r g in record { outcome = d.0; has = has d.0 (Ok x, a, (Ok y, b, d.1)); goes = d.2 }
    more x a (Err e) b g = record { outcome = Err e; has = has (Err e) (Ok x, a, (Err e, b, refl)); goes = g }

    go : (a : Outcome) → HasOutcome p rs t a → After a (λ x q. Runs p rs (postfix u ++ i ∷ rest) (x ∷ s) q) r → RunsTree p rs v rest s r
    go (Ok x) a g = let k = second x r g in more x a k.outcome k.has k.goes
    go (Err e) a g = record { outcome = Err e; has = has (Err e) (Err e, a, refl); goes = g }

regroup : (xs ys : List Item) (i : Item) (rest : List Item) → (xs ++ (ys ++ i ∷ [])) ++ rest ≡ xs ++ (ys ++ i ∷ rest)
regroup xs ys i rest = simp append_assoc

pub runs_tree : (p : ℕ) (rs : List ℕ) (t : Tree) (rest : List Item) (s : List ℕ) (r : Outcome) → Runs p rs (postfix t ++ rest) s r → RunsTree p rs t rest s r
runs_tree p rs (number n) rest s r h = record { outcome = Ok (n % p); has = refl; goes = h }
runs_tree p rs (place i) rest s r h = record { outcome = Ok (slice_index rs i); has = refl; goes = h }
runs_tree p rs (negative t) rest s r h =
    one_operand p rs t (negative t) rest s r item.Negate (λ x. opposite_of p x) (λ o k. k) (λ x q k. k)
    (runs_tree p rs t (item.Negate ∷ rest) s r (subst (λ is. Runs p rs is s r) (append_assoc (postfix t) (item.Negate ∷ []) rest) h))
runs_tree p rs (power t n) rest s r h =
    one_operand p rs t (power t n) rest s r (item.Power n) (λ x. x ^ n % p) (λ o k. k) (λ x q k. k)
    (runs_tree p rs t (item.Power n ∷ rest) s r (subst (λ is. Runs p rs is s r) (append_assoc (postfix t) (item.Power n ∷ []) rest) h))
runs_tree p rs (sum t u) rest s r h =
    two_operands p rs t u (sum t u) rest s r item.Add (λ x y o. o ≡ Ok (sum_of p x y)) (λ o k. k) (λ x y q k. (Ok (sum_of p x y), refl, k))
    (λ x q k. runs_tree p rs u (item.Add ∷ rest) (x ∷ s) q k)
    (runs_tree p rs t (postfix u ++ item.Add ∷ rest) s r (subst (λ is. Runs p rs is s r) (regroup (postfix t) (postfix u) item.Add rest) h))
runs_tree p rs (difference t u) rest s r h =
    two_operands p rs t u (difference t u) rest s r item.Subtract (λ x y o. o ≡ Ok (difference_of p x y)) (λ o k. k) (λ x y q k. (Ok (difference_of p x y), refl, k))
    (λ x q k. runs_tree p rs u (item.Subtract ∷ rest) (x ∷ s) q k)
    (runs_tree p rs t (postfix u ++ item.Subtract ∷ rest) s r (subst (λ is. Runs p rs is s r) (regroup (postfix t) (postfix u) item.Subtract rest) h))
runs_tree p rs (product t u) rest s r h =
    two_operands p rs t u (product t u) rest s r item.Multiply (λ x y o. o ≡ Ok (product_of p x y)) (λ o k. k) (λ x y q k. (Ok (product_of p x y), refl, k))
    (λ x q k. runs_tree p rs u (item.Multiply ∷ rest) (x ∷ s) q k)
    (runs_tree p rs t (postfix u ++ item.Multiply ∷ rest) s r (subst (λ is. Runs p rs is s r) (regroup (postfix t) (postfix u) item.Multiply rest) h))
runs_tree p rs (quotient at t u) rest s r h =
    two_operands p rs t u (quotient at t u) rest s r (item.Divide at) (λ x y o. IsQuotient p at x y o) (λ o k. k) (λ x y q k. k)
    (λ x q k. runs_tree p rs u (item.Divide at ∷ rest) (x ∷ s) q k)
    (runs_tree p rs t (postfix u ++ item.Divide at ∷ rest) s r (subst (λ is. Runs p rs is s r) (regroup (postfix t) (postfix u) (item.Divide at) rest) h))

-- so the outcome of a program is that of its tree
pub outcome_of : (p : ℕ) (rs : List ℕ) (items : List Item) (r : Outcome) → IsProgram items → Runs p rs items [] r → HasOutcome p rs (tree_of items) r
outcome_of p rs items r program h =
    let whole : Runs p rs (postfix (tree_of items) ++ []) [] r = subst (λ is. Runs p rs is [] r) (sym (append-nil (postfix (tree_of items)) ∙ program.whole)) h in
    let d = runs_tree p rs (tree_of items) [] [] r whole in
    same d.outcome d.has d.goes
  where
    same : (a : Outcome) → HasOutcome p rs (tree_of items) a → After a (λ x q. q ≡ Ok x) r → HasOutcome p rs (tree_of items) r
    same (Ok x) a g = subst (HasOutcome p rs (tree_of items)) (sym g) a
    same (Err e) a g = subst (HasOutcome p rs (tree_of items)) (sym g) a

-- a program that went too high or low has no height
pub none_stays : (items : List Item) → fold then_height None items ≡ None
none_stays [] = refl
none_stays (i ∷ is) = none_stays is

some_height : (o : Option ℕ) (items : List Item) → fold then_height o items ≡ Some 1 → IsSome o
some_height None items h = absurd (none-some 1 (sym (none_stays items) ∙ h))
some_height (Some n) items h = refl

pub item_fits : (h i : ℕ) (items : List Item) (d : Item) → i < length items → fold then_height (Some h) (drop i items) ≡ Some 1 → IsSome (height_after h (get_or items i d))
item_fits h i items d lt fits =
    some_height (height_after h (get_or items i d)) (drop (i + 1) items) (sym (at_drop_more (fold then_height (Some h)) items i d lt) ∙ fits)

-- where an item fails, the program does
pub runs_at : (p : ℕ) (rs : List ℕ) (items : List Item) (i : ℕ) (d : Item) (s : List ℕ) (r : Outcome) → i < length items →
    Runs p rs (get_or items i d ∷ drop (i + 1) items) s r → Runs p rs (drop i items) s r
runs_at p rs items i d s r lt h = subst (λ is. Runs p rs is s r) (sym (drop_more items i d lt)) h

-- the last value is the program's
pub runs_at_end : (p : ℕ) (rs : List ℕ) (items : List Item) (i : ℕ) (s rest : List ℕ) (v : ℕ) → length items ≤ i → s ≡ v ∷ rest → Runs p rs (drop i items) s (Ok v)
runs_at_end p rs items i s rest v le e =
    subst (λ is. Runs p rs is s (Ok v)) (sym (drop_all i items le)) (ap (λ q. Ok (top_value q)) (sym e))
