-- What the fields of the reader of values say of its context. Private contracts speak of it.
use Rattle.std.specs.Prelude.{◌≡◌, ℕ, ◌+◌, ◌≤◌, Bool, true, false, Some, List, [], ◌∷◌, ◌++◌, length, count_by, nat_lt, ◌==◌}
use Rattle.rational_expressions.specs.declared.value_reader.Mode.{Mode}
use Rattle.rational_expressions.specs.declared.value_reader.Mode.TheVariants as mode
use Rattle.rational_expressions.specs.declared.value_reader.SumMark.{SumMark}
use Rattle.rational_expressions.specs.declared.value_reader.SumMark.TheVariants as sum_mark
use Rattle.rational_expressions.specs.declared.value_reader.ProductMark.{ProductMark}
use Rattle.rational_expressions.specs.declared.value_reader.ProductMark.TheVariants as product_mark
use Rattle.text_tokens.specs.declared.tokens.Kind.{Kind}
use Rattle.text_tokens.specs.declared.tokens.Kind.TheVariants as kinds
use Rattle.rational_expressions.specs.declared.value_reader.Level.{Level}
use Rattle.rational_expressions.specs.declared.value_reader.Action.{Action}
use Rattle.rational_expressions.specs.declared.value_reader.Action.TheVariants as action
use Rattle.rational_expressions.specs.declared.value_reader.Reader.{Reader}
use Rattle.rational_expressions.specs.declared.expressions.Item.{Item}
use Rattle.rational_expressions.specs.declared.expressions.Item.TheVariants as item
use Rattle.text_tokens.specs.Tokens.{Token, plus_sign, minus_sign, number, name, plus, minus, star, slash, caret, opening, closing, other, number_of}
use Rattle.rational_expressions.specs.Trees.{postfix, height_of}
use Rattle.rational_expressions.specs.Values.{plain, raised, sum_tree, product_tree, power_tree, atom_tree, place_of, is_opening, is_closing, is_sign, ends_in_caret}
use Rattle.rational_expressions.specs.ValueReader.{SumLead, empty, lone, after, ProductLead, bare, by, divided, Frame, Place, before_atom, before_exponent, behind, Context, context_tokens, run, is_before_exponent, IsFresh}

abbrev pub mark_of_sum : SumLead → SumMark
mark_of_sum empty = sum_mark.Nothing
mark_of_sum (lone plus_sign) = sum_mark.Nothing
mark_of_sum (lone minus_sign) = sum_mark.Negate
mark_of_sum (after m plus_sign) = sum_mark.Add
mark_of_sum (after m minus_sign) = sum_mark.Subtract

abbrev pub mark_of_product : ProductLead → ProductMark
mark_of_product bare = product_mark.Nothing
mark_of_product (by p) = product_mark.Multiply
mark_of_product (divided p at) = product_mark.Divide at

abbrev pub level_of : Frame → Level
level_of f = record { sum = mark_of_sum f.sum; product = mark_of_product f.product }

abbrev pub new_level : Level
new_level = record { sum = sum_mark.Nothing; product = product_mark.Nothing }

abbrev pub levels_of : List Frame → List Level
levels_of [] = []
levels_of (f ∷ fs) = levels_of fs ++ level_of f ∷ []

abbrev pub mode_of : Place → Mode
mode_of (before_atom b f) = mode.BeforeAtom b
mode_of (before_exponent f a) = mode.BeforeExponent
mode_of (behind f (plain a)) = mode.Behind true
mode_of (behind f (raised a digits)) = mode.Behind false

abbrev pub frame_of : Place → Frame
frame_of (before_atom b f) = f
frame_of (before_exponent f a) = f
frame_of (behind f w) = f

-- the items of what was read, but for the operations that wait
abbrev pub sum_lead_items : List (List ℕ) → SumLead → List Item
sum_lead_items names empty = []
sum_lead_items names (lone s) = []
sum_lead_items names (after m s) = postfix (sum_tree names m)

abbrev pub product_lead_items : List (List ℕ) → ProductLead → List Item
product_lead_items names bare = []
product_lead_items names (by p) = postfix (product_tree names p)
product_lead_items names (divided p at) = postfix (product_tree names p)

abbrev pub frame_items : List (List ℕ) → Frame → List Item
frame_items names f = sum_lead_items names f.sum ++ product_lead_items names f.product

abbrev pub outer_items : List (List ℕ) → List Frame → List Item
outer_items names [] = []
outer_items names (f ∷ fs) = outer_items names fs ++ frame_items names f

abbrev pub place_items : List (List ℕ) → Place → List Item
place_items names (before_atom b f) = frame_items names f
place_items names (before_exponent f a) = frame_items names f ++ postfix (atom_tree names a)
place_items names (behind f w) = frame_items names f ++ postfix (power_tree names w)

-- how many values they leave
abbrev pub sum_lead_height : SumLead → ℕ
sum_lead_height empty = 0
sum_lead_height (lone s) = 0
sum_lead_height (after m s) = 1

abbrev pub product_lead_height : ProductLead → ℕ
product_lead_height bare = 0
product_lead_height (by p) = 1
product_lead_height (divided p at) = 1

abbrev pub frame_height : Frame → ℕ
frame_height f = sum_lead_height f.sum + product_lead_height f.product

abbrev pub outer_height : List Frame → ℕ
outer_height [] = 0
outer_height (f ∷ fs) = outer_height fs + frame_height f

abbrev pub place_height : Place → ℕ
place_height (before_atom b f) = frame_height f
place_height (before_exponent f a) = frame_height f + 1
place_height (behind f w) = frame_height f + 1

-- The fields show the context, where `count` signs were read.
pub record Shows (names : List (List ℕ)) (c : Context) (count : ℕ) (r : Reader) : Type 0 where
  pub mode : r.mode ≡ mode_of c.place
  pub level : r.level ≡ level_of (frame_of c.place)
  pub outer : r.outer.items ≡ levels_of c.outer
  pub items : r.items.items ≡ outer_items names c.outer ++ place_items names c.place
  pub height : height_of r.items.items ≡ Some (outer_height c.outer + place_height c.place)
  pub depth : length c.outer ≤ 32
  pub signs : r.signs ≡ count

-- What the reader knows of the tokens before.
pub record HasRead (names : List (List ℕ)) (before : List Token) (r : Reader) : Type 0 where
  pub context : Context
  pub ran : run before ≡ Some context
  pub written : context_tokens context ≡ before
  pub fresh : IsFresh context.place
  pub opened : count_by is_opening before ≡ length context.outer + count_by is_closing before
  pub few : count_by is_sign before ≤ 1000
  pub caret : ends_in_caret before ≡ is_before_exponent context.place
  pub shows : Shows names context (count_by is_sign before) r

-- the operations that a level does at the end of a product and of a sum
abbrev pub product_items : ProductMark → List Item
product_items product_mark.Nothing = []
product_items product_mark.Multiply = item.Multiply ∷ []
product_items (product_mark.Divide at) = item.Divide at ∷ []

abbrev pub sum_items : SumMark → List Item
sum_items sum_mark.Nothing = []
sum_items sum_mark.Negate = item.Negate ∷ []
sum_items sum_mark.Add = item.Add ∷ []
sum_items sum_mark.Subtract = item.Subtract ∷ []

-- whether a value may go on with a token of this kind
abbrev pub accepts_of : Mode → List Level → Kind → Bool
accepts_of (mode.BeforeAtom b) outer kinds.Number = true
accepts_of (mode.BeforeAtom b) outer kinds.Name = true
accepts_of (mode.BeforeAtom b) outer kinds.Opening = true
accepts_of (mode.BeforeAtom b) outer kinds.Plus = b
accepts_of (mode.BeforeAtom b) outer kinds.Minus = b
accepts_of mode.BeforeExponent outer kinds.Number = true
accepts_of (mode.Behind b) outer kinds.Plus = true
accepts_of (mode.Behind b) outer kinds.Minus = true
accepts_of (mode.Behind b) outer kinds.Star = true
accepts_of (mode.Behind b) outer kinds.Slash = true
accepts_of (mode.Behind b) outer kinds.Caret = b
accepts_of (mode.Behind b) outer kinds.Closing = nat_lt 0 (length outer)
accepts_of m outer k = false

-- what the reader does with a number, and with a token at a place
abbrev pub number_action : Bool → List ℕ → Action
number_action true digits = action.Exponent (number_of digits)
number_action false digits = action.Operand (item.Number (number_of digits))

abbrev pub sign_action : Kind → ℕ → Action
sign_action kinds.Plus at = action.Sign false
sign_action kinds.Minus at = action.Sign true
sign_action kinds.Star at = action.Factor product_mark.Multiply
sign_action kinds.Slash at = action.Factor (product_mark.Divide at)
sign_action k at = action.Raise

abbrev pub is_exponent_mode : Mode → Bool
is_exponent_mode (mode.BeforeAtom b) = false
is_exponent_mode mode.BeforeExponent = true
is_exponent_mode (mode.Behind b) = false

abbrev pub action_of : List (List ℕ) → Place → Token → Action
action_of names p (number digits) = number_action (is_before_exponent p) digits
action_of names p (name w) = action.Operand (item.Place (place_of names w))
action_of names p opening = action.Open
action_of names p closing = action.Close
action_of names p plus = action.Sign false
action_of names p minus = action.Sign true
action_of names p star = action.Factor product_mark.Multiply
action_of names p (slash at) = action.Factor (product_mark.Divide at)
action_of names p caret = action.Raise
action_of names p other = action.Raise

-- the fields of the reader
pub record Has (r : Reader) (m : Mode) (l : Level) (levels : List Level) (is : List Item) (count : ℕ) : Type 0 where
  pub mode : r.mode ≡ m
  pub level : r.level ≡ l
  pub outer : r.outer.items ≡ levels
  pub items : r.items.items ≡ is
  pub signs : r.signs ≡ count

-- the mark of a sign before the first product, and of one behind a sum
abbrev pub first_mark : Bool → SumMark
first_mark false = sum_mark.Nothing
first_mark true = sum_mark.Negate

abbrev pub next_mark : Bool → SumMark
next_mark false = sum_mark.Add
next_mark true = sum_mark.Subtract

abbrev pub HasSign : Mode → Bool → Reader → Reader → Type 0
HasSign (mode.BeforeAtom a) b old new =
    Has new (mode.BeforeAtom false) (record { sum = first_mark b; product = product_mark.Nothing }) old.outer.items old.items.items (old.signs + 1)
HasSign m b old new =
    Has new (mode.BeforeAtom false) (record { sum = next_mark b; product = product_mark.Nothing }) old.outer.items
    (old.items.items ++ (product_items old.level.product ++ sum_items old.level.sum)) (old.signs + 1)

-- what an action changes
abbrev pub HasDone : Action → Reader → Reader → Type 0
HasDone (action.Operand i) old new = Has new (mode.Behind true) old.level old.outer.items (old.items.items ++ i ∷ []) old.signs
HasDone (action.Exponent n) old new = Has new (mode.Behind false) old.level old.outer.items (old.items.items ++ item.Power n ∷ []) old.signs
HasDone action.Open old new = Has new (mode.BeforeAtom true) new_level (old.outer.items ++ old.level ∷ []) old.items.items old.signs
HasDone action.Close old new =
    (outer : List Level) (level : Level) → old.outer.items ≡ outer ++ level ∷ [] →
    Has new (mode.Behind true) level outer (old.items.items ++ (product_items old.level.product ++ sum_items old.level.sum)) old.signs
HasDone (action.Sign b) old new = HasSign old.mode b old new
HasDone (action.Factor m) old new =
    Has new (mode.BeforeAtom false) (record { sum = old.level.sum; product = m }) old.outer.items (old.items.items ++ product_items old.level.product) (old.signs + 1)
HasDone action.Raise old new = Has new mode.BeforeExponent old.level old.outer.items old.items.items (old.signs + 1)

-- whether what was read is a whole value: behind a power, with no parenthesis open
abbrev pub is_whole_at : Mode → List Level → Bool
is_whole_at (mode.BeforeAtom b) outer = false
is_whole_at mode.BeforeExponent outer = false
is_whole_at (mode.Behind b) outer = length outer == 0
