-- How a proof tells trees apart: by their items.
use Rattle.std.specs.Prelude.{◌≡◌, ℕ, List, [], ◌∷◌, ◌++◌, fold, refl}
use Rattle.std.specs.Coded.{Coded, code_by, coded×, coded_ℕ, coded_list}
use Rattle.std.proofs.Common.{◌∙◌, ap, zero, suc}
use Rattle.std.proofs.lemmas.List.Sums.{fold-append}
use Rattle.rational_expressions.specs.declared.expressions.Item.{Item}
use Rattle.rational_expressions.specs.declared.expressions.Item.TheVariants as item
use Rattle.rational_expressions.specs.Trees.{Tree, number, place, negative, sum, difference, product, quotient, power, postfix, apply, tree_of, top_of}

-- an item as two numbers
abbrev pub pair_of : Item → ℕ × ℕ
pair_of (item.Number n) = (0, n)
pair_of (item.Place i) = (1, i)
pair_of item.Negate = (2, 0)
pair_of item.Add = (3, 0)
pair_of item.Subtract = (4, 0)
pair_of item.Multiply = (5, 0)
pair_of (item.Divide at) = (6, at)
pair_of (item.Power n) = (7, n)

abbrev pub item_at : ℕ → ℕ → Item
item_at zero n = item.Number n
item_at (suc zero) n = item.Place n
item_at (suc (suc zero)) n = item.Negate
item_at (suc (suc (suc zero))) n = item.Add
item_at (suc (suc (suc (suc zero)))) n = item.Subtract
item_at (suc (suc (suc (suc (suc zero))))) n = item.Multiply
item_at (suc (suc (suc (suc (suc (suc zero)))))) n = item.Divide n
item_at (suc (suc (suc (suc (suc (suc (suc k))))))) n = item.Power n

pub pair_gives : (i : Item) → item_at (pair_of i).0 (pair_of i).1 ≡ i
pair_gives (item.Number n) = refl
pair_gives (item.Place i) = refl
pair_gives item.Negate = refl
pair_gives item.Add = refl
pair_gives item.Subtract = refl
pair_gives item.Multiply = refl
pair_gives (item.Divide at) = refl
pair_gives (item.Power n) = refl

abbrev pub coded_item : Coded Item
coded_item = code_by (ℕ × ℕ) (coded× coded_ℕ coded_ℕ) pair_of (λ p. item_at p.0 p.1) pair_gives

-- of two trees and an item that joins them
both : (f : Tree → Tree → Tree) (t u : Tree) (ts : List Tree) (i : Item) → fold apply ts (postfix t) ≡ t ∷ ts → fold apply (t ∷ ts) (postfix u) ≡ u ∷ t ∷ ts →
    apply (u ∷ t ∷ ts) i ≡ f t u ∷ ts → fold apply ts (postfix t ++ (postfix u ++ i ∷ [])) ≡ f t u ∷ ts
both f t u ts i h k e =
    fold-append apply ts (postfix t) (postfix u ++ i ∷ []) ∙ ap (λ q. fold apply q (postfix u ++ i ∷ [])) h
    ∙ fold-append apply (t ∷ ts) (postfix u) (i ∷ []) ∙ ap (λ q. fold apply q (i ∷ [])) k ∙ e

-- the items of a tree, applied, put the tree in front of what waits
pub applied : (t : Tree) (ts : List Tree) → fold apply ts (postfix t) ≡ t ∷ ts
applied (number n) ts = refl
applied (place i) ts = refl
applied (negative t) ts =
    fold-append apply ts (postfix t) (item.Negate ∷ []) ∙ ap (λ q. fold apply q (item.Negate ∷ [])) (applied t ts)
applied (sum t u) ts = both (λ x y. sum x y) t u ts item.Add (applied t ts) (applied u (t ∷ ts)) refl
applied (difference t u) ts = both (λ x y. difference x y) t u ts item.Subtract (applied t ts) (applied u (t ∷ ts)) refl
applied (product t u) ts = both (λ x y. product x y) t u ts item.Multiply (applied t ts) (applied u (t ∷ ts)) refl
applied (quotient at t u) ts = both (λ x y. quotient at x y) t u ts (item.Divide at) (applied t ts) (applied u (t ∷ ts)) refl
applied (power t n) ts =
    fold-append apply ts (postfix t) (item.Power n ∷ []) ∙ ap (λ q. fold apply q (item.Power n ∷ [])) (applied t ts)

pub tree_again : (t : Tree) → tree_of (postfix t) ≡ t
tree_again t = ap top_of (applied t [])

abbrev pub coded_tree : Coded Tree
coded_tree = code_by (List Item) (coded_list coded_item) postfix tree_of tree_again
