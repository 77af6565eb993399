-- Values on one line: `[..]`, `{..}`, and scalars with or without quotes. The project's own profile of
-- YAML 1.2. Each reader answers what it read and the text behind it.
use Rattle.std.specs.Prelude.{◌≡◌, ◌≢◌, ℕ, zero, suc, Bool, true, false, if◌then◌else◌, List, [], ◌∷◌, ◌++◌, length, reverse, Option, Some, None, MatchOption, Result, Ok, Err}
use Rattle.yaml_text.specs.declared.fault.YamlKind.{YamlKind}
use Rattle.yaml_text.specs.declared.fault.YamlKind.TheVariants as kind
use Rattle.yaml_text.specs.declared.token.Token.{Token}
use Rattle.yaml_text.specs.declared.token.Token.TheVariants.{OpenList, CloseList, OpenMap, CloseMap, Comma, Key, Scalar}
use Rattle.yaml_text.specs.declared.fault.YamlError.{YamlError}
use Rattle.yaml_text.specs.declared.fault.YamlError.TheVariants.{OutOfMemory}
use Rattle.yaml_text.specs.declared.flow.Goal.{Goal}
use Rattle.yaml_text.specs.declared.flow.Goal.TheVariants as g
use Rattle.yaml_text.specs.declared.tree.Tree.{Tree, roll-Tree}
use Rattle.yaml_text.specs.declared.tree.Pair.{Pair, roll-Pair}
use Rattle.yaml_text.specs.declared.tree.Value.TheVariants as v
use Rattle.yaml_text.specs.Outcomes.{Outcome, refuse, ◌>>=◌}
use Rattle.yaml_text.specs.Lines.{Bytes, is_empty}
use Rattle.yaml_text.specs.SameKeys.{has_key}
use Rattle.yaml_text.specs.Words.{Words}
use Rattle.yaml_text.specs.Tokens.{token, behind, is_indicator, scalar_fault, key_fault}

-- ---- the nodes of a tree

abbrev pub empty_at : ℕ → Tree
empty_at line = roll-Tree (record { line = line; value = v.Empty })

abbrev pub scalar_at : ℕ → Bytes → Tree
scalar_at line text = roll-Tree (record { line = line; value = v.Scalar text })

abbrev pub list_at : ℕ → List Tree → Tree
list_at line items = roll-Tree (record { line = line; value = v.List items })

abbrev pub map_at : ℕ → List Pair → Tree
map_at line pairs = roll-Tree (record { line = line; value = v.Map pairs })

abbrev pub pair_at : ℕ → Bytes → Tree → Pair
pair_at line key value = roll-Pair (record { key = key; line = line; value = value })

-- ---- keys and scalars

abbrev pub unless_fault : {A : Type 0} → ℕ → Option YamlKind → Outcome A → Outcome A
unless_fault line (Some k) outcome = refuse line k
unless_fault line None outcome = outcome

unfoldable pub scalar : ℕ → Words → Outcome Tree
scalar line words = unless_fault line (scalar_fault words) (Ok (scalar_at line words.text))

-- a key of a map in which these stand before it
unfoldable pub new_key : ℕ → List Bytes → Words → Outcome (Unit {0})
new_key line seen words =
    unless_fault line (key_fault words) (if has_key words.text seen then refuse line kind.DuplicateKey else Ok tt)

-- the same where something else may stand in the place of the key, which is then this fault
abbrev pub key : ℕ → YamlKind → List Bytes → Token → Outcome Words
key line other seen (Key words) = new_key line seen words >>= (λ _. Ok words)
key line other seen _ = refuse line other

-- ---- which texts are a value on one line, whatever their scalars and keys are

-- what may stand where a value has to come, and what has to come behind it
abbrev pub for_value : Token → Option (List Goal)
for_value (Scalar words) = Some []
for_value OpenList = Some (g.ItemOrEnd ∷ [])
for_value OpenMap = Some (g.PairOrEnd ∷ [])
for_value _ = None

-- the same, where more has to come then
abbrev pub and_then : Option (List Goal) → Goal → Option (List Goal)
and_then None goal = None
and_then (Some goals) goal = Some (goals ++ goal ∷ [])

-- what a piece leaves to come, or nothing where it may not stand there
abbrev pub step : Goal → Token → Option (List Goal)
step g.Value t = for_value t
step g.ItemOrEnd CloseList = Some []
step g.ItemOrEnd t = and_then (for_value t) g.NextItem
step g.NextItem Comma = Some (g.Value ∷ g.NextItem ∷ [])
step g.NextItem CloseList = Some []
step g.NextItem _ = None
step g.PairOrEnd CloseMap = Some []
step g.PairOrEnd (Key words) = Some (g.Value ∷ g.NextPair ∷ [])
step g.PairOrEnd _ = None
step g.Pair (Key words) = Some (g.Value ∷ g.NextPair ∷ [])
step g.Pair _ = None
step g.NextPair Comma = Some (g.Pair ∷ [])
step g.NextPair CloseMap = Some []
step g.NextPair _ = None

abbrev pub if_some : Option (List Goal) → (List Goal → Bool) → Bool
if_some None test = false
if_some (Some goals) test = test goals

-- The text has just what has to come, the first goal first. The number bounds the pieces, and each
-- piece has a byte, so the count of bytes is enough.
unfoldable pub fits : ℕ → List Goal → Bytes → Bool
fits n [] text = is_empty text
fits zero (goal ∷ goals) text = false
fits (suc n) (goal ∷ goals) text = if_some (step goal (token text)) (λ more. fits n (more ++ goals) (behind text))

unfoldable pub is_flow : Bytes → Bool
is_flow text = fits (length text) (g.Value ∷ []) text

-- ---- reading. The line is that of the text.

abbrev pub Parser : Type 0 → Type 0
Parser A = Bytes → Outcome (A × Bytes)

-- What goes on at a comma, and what is there at the end of a list or of a map.
abbrev pub behind_item : {A : Type 0} → ℕ → Token → Outcome A → Outcome A → Outcome A
behind_item line Comma more all = more
behind_item line CloseList more all = all
behind_item line _ more all = refuse line kind.Flow

abbrev pub behind_pair : {A : Type 0} → ℕ → Token → Outcome A → Outcome A → Outcome A
behind_pair line Comma more all = more
behind_pair line CloseMap more all = all
behind_pair line _ more all = refuse line kind.Flow

-- over a reader of what a list or a map holds
module _ (line : ℕ) (inner : Parser Tree) where
  -- items, with those that stand before; the number bounds them
  unfoldable pub items_from : ℕ → List Tree → Parser (List Tree)
  items_from zero found text = refuse line kind.Flow
  items_from (suc n) found text =
      inner text >>= (λ x. behind_item line (token x.1) (items_from n (found ++ x.0 ∷ []) (behind x.1)) (Ok (found ++ x.0 ∷ [], behind x.1)))

  abbrev pub items_by : Token → Parser (List Tree)
  items_by CloseList text = Ok ([], behind text)
  items_by _ text = items_from (length text) [] text

  -- behind `[`
  unfoldable pub items : Parser (List Tree)
  items text = items_by (token text) text

  unfoldable pub pairs_from : ℕ → List Bytes → List Pair → Parser (List Pair)
  pairs_from zero seen found text = refuse line kind.Flow
  pairs_from (suc n) seen found text =
      key line kind.Flow seen (token text) >>= (λ k. inner (behind text) >>= (λ x.
      behind_pair line (token x.1) (pairs_from n (seen ++ k.text ∷ []) (found ++ pair_at line k.text x.0 ∷ []) (behind x.1))
      (Ok (found ++ pair_at line k.text x.0 ∷ [], behind x.1))))

  abbrev pub pairs_by : Token → Parser (List Pair)
  pairs_by CloseMap text = Ok ([], behind text)
  pairs_by _ text = pairs_from (length text) [] [] text

  -- behind `{`
  unfoldable pub pairs : Parser (List Pair)
  pairs text = pairs_by (token text) text

-- a value by its first piece, over readers of what stands behind `[` and `{`
abbrev pub value_by : ℕ → Parser (List Tree) → Parser (List Pair) → Token → Parser Tree
value_by line as_list as_map (Scalar words) rest = scalar line words >>= (λ t. Ok (t, rest))
value_by line as_list as_map OpenList rest = as_list rest >>= (λ p. Ok (list_at line p.0, p.1))
value_by line as_list as_map OpenMap rest = as_map rest >>= (λ p. Ok (map_at line p.0, p.1))
value_by line as_list as_map _ rest = refuse line kind.Flow

-- a value with lists and maps no deeper than the number
unfoldable pub value : ℕ → ℕ → Parser Tree
value line zero text = value_by line (λ rest. refuse line kind.TooDeep) (λ rest. refuse line kind.TooDeep) (token text) (behind text)
value line (suc depth) text = value_by line (items line (value line depth)) (pairs line (value line depth)) (token text) (behind text)

-- A text that must be a value. One that isn't a value as a whole has no scalars and keys inside.
unfoldable pub flow : ℕ → ℕ → Bytes → Outcome Tree
flow line depth text =
    if is_indicator text then refuse line kind.Indicator
    else (if is_flow text then value line depth text >>= (λ p. Ok p.0) else refuse line kind.Flow)

-- ---- words of the functions that read

-- what a reader answers, and the text that it leaves
abbrev pub Reads : {A : Type 0} → Outcome (A × Bytes) → Result A YamlError → Bytes → Type 0
Reads outcome (Ok a) new = outcome ≡ Ok (a, new)
Reads outcome (Err e) new = e ≢ OutOfMemory → outcome ≡ Err e

-- Whether a piece may stand there, with what has to come on top of what had to come, the first last.
abbrev pub Meets : Option (List Goal) → List Goal → Result Bool YamlError → List Goal → Type 0
Meets goals old (Ok met) new = MatchOption goals (met ≡ false) (λ more. (met ≡ true) × (new ≡ old ++ reverse more))
Meets goals old (Err e) new = e ≡ OutOfMemory

abbrev pub answers_flow : Bytes → Outcome Bool
answers_flow text = Ok (is_flow text)

abbrev pub as_text : Bytes → Outcome Bytes
as_text bytes = Ok bytes

abbrev pub as_pair : ℕ → Bytes → Tree → Outcome Pair
as_pair line key value = Ok (pair_at line key value)
