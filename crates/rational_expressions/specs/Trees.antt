-- Expressions as trees, and how the program keeps them. The project's own.
use Rattle.std.specs.Prelude.{◌≡◌, ℕ, ◌+◌, ◌-◌, nat_lt, nat_le, if◌then◌else◌, Option, Some, None, List, [], ◌∷◌, ◌++◌, fold}
use Rattle.rational_expressions.specs.declared.expressions.Item.{Item}
use Rattle.rational_expressions.specs.declared.expressions.Item.TheVariants as item

-- A number, the place of a name, or an operation. A quotient tells the offset of its slash.
pub data Tree : Type 0 where
  number : (value : ℕ) → Tree
  place : (at : ℕ) → Tree
  negative : Tree → Tree
  sum : Tree → Tree → Tree
  difference : Tree → Tree → Tree
  product : Tree → Tree → Tree
  quotient : (at : ℕ) → Tree → Tree → Tree
  power : Tree → (exponent : ℕ) → Tree

-- the items of a tree, operands first
abbrev pub postfix : Tree → List Item
postfix (number n) = item.Number n ∷ []
postfix (place i) = item.Place i ∷ []
postfix (negative t) = postfix t ++ item.Negate ∷ []
postfix (sum t u) = postfix t ++ (postfix u ++ item.Add ∷ [])
postfix (difference t u) = postfix t ++ (postfix u ++ item.Subtract ∷ [])
postfix (product t u) = postfix t ++ (postfix u ++ item.Multiply ∷ [])
postfix (quotient at t u) = postfix t ++ (postfix u ++ item.Divide at ∷ [])
postfix (power t n) = postfix t ++ item.Power n ∷ []

-- what an item makes of the trees that wait, the last one first
abbrev pub apply : List Tree → Item → List Tree
apply ts (item.Number n) = number n ∷ ts
apply ts (item.Place i) = place i ∷ ts
apply (t ∷ ts) item.Negate = negative t ∷ ts
apply (u ∷ t ∷ ts) item.Add = sum t u ∷ ts
apply (u ∷ t ∷ ts) item.Subtract = difference t u ∷ ts
apply (u ∷ t ∷ ts) item.Multiply = product t u ∷ ts
apply (u ∷ t ∷ ts) (item.Divide at) = quotient at t u ∷ ts
apply (t ∷ ts) (item.Power n) = power t n ∷ ts
apply ts i = ts

abbrev pub top_of : List Tree → Tree
top_of [] = number 0
top_of (t ∷ ts) = t

-- the tree of a list of items
abbrev pub tree_of : List Item → Tree
tree_of items = top_of (fold apply [] items)

-- how many values wait after an item, where `h` waited before it: at most 67
abbrev pub height_after : ℕ → Item → Option ℕ
height_after h (item.Number n) = if nat_lt h 67 then Some (h + 1) else None
height_after h (item.Place i) = if nat_lt h 67 then Some (h + 1) else None
height_after h item.Negate = if nat_le 1 h then Some h else None
height_after h item.Add = if nat_le 2 h then Some (h - 1) else None
height_after h item.Subtract = if nat_le 2 h then Some (h - 1) else None
height_after h item.Multiply = if nat_le 2 h then Some (h - 1) else None
height_after h (item.Divide at) = if nat_le 2 h then Some (h - 1) else None
height_after h (item.Power n) = if nat_le 1 h then Some h else None

abbrev pub then_height : Option ℕ → Item → Option ℕ
then_height None i = None
then_height (Some h) i = height_after h i

abbrev pub height_of : List Item → Option ℕ
height_of items = fold then_height (Some 0) items

-- the items are those of a tree, and never more than 67 values wait
pub record IsProgram (items : List Item) : Type 0 where
  pub whole : postfix (tree_of items) ≡ items
  pub height : height_of items ≡ Some 1
