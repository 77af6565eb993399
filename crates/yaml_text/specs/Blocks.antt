-- Blocks of lines: lists by dashes, maps by keys, and single values. The project's own profile of YAML 1.2.
use Rattle.std.specs.Prelude.{ℕ, zero, suc, ◌+◌, ◌-◌, Bool, true, false, ◌&&◌, ◌||◌, if◌then◌else◌, ◌==◌, nat_lt, List, [], ◌∷◌, ◌++◌, length, take, drop, Ok}
use Rattle.std.specs.List.{prefix_len}
use Rattle.yaml_text.specs.declared.fault.YamlKind.TheVariants as kind
use Rattle.yaml_text.specs.declared.token.Token.{Token}
use Rattle.yaml_text.specs.declared.token.Token.TheVariants.{Key}
use Rattle.yaml_text.specs.declared.tree.Tree.{Tree}
use Rattle.yaml_text.specs.declared.tree.Pair.{Pair}
use Rattle.yaml_text.specs.Outcomes.{Outcome, refuse, ◌>>=◌}
use Rattle.yaml_text.specs.Lines.{Bytes, Line, is_empty, skip, lines}
use Rattle.yaml_text.specs.Words.{ends_here}
use Rattle.yaml_text.specs.Tokens.{token, behind}
use Rattle.yaml_text.specs.Flow.{empty_at, list_at, map_at, pair_at, key, flow}

-- ---- lines

-- the text is `-` or begins with `- `
abbrev pub is_dash : Bytes → Bool
is_dash [] = false
is_dash (b ∷ bs) = b == 45 && ends_here bs

-- the line begins an item of a list of this indentation
abbrev pub is_item : ℕ → Line → Bool
is_item indent line = line.indent == indent && is_dash line.text

abbrev pub is_deeper : ℕ → Line → Bool
is_deeper indent line = nat_lt indent line.indent

-- how many lines in front are deeper
abbrev pub deep : ℕ → List Line → ℕ
deep indent = prefix_len (is_deeper indent)

-- how many lines in front are deeper or begin items
abbrev pub goes_on : ℕ → Line → Bool
goes_on indent line = is_deeper indent line || is_item indent line

abbrev pub listed : ℕ → List Line → ℕ
listed indent = prefix_len (goes_on indent)

-- How many lines the value of a key takes behind which nothing stands: the deeper lines that come
-- next; or, where there is none, the lines that begin items at the key's indentation, with the deeper
-- lines behind each.
abbrev pub below : ℕ → List Line → ℕ
below indent lines = if deep indent lines == 0 then listed indent lines else deep indent lines

-- how many lines the value of a key takes behind which this stands
unfoldable pub value_lines : ℕ → Bytes → List Line → ℕ
value_lines indent rest lines = if is_empty rest then below indent lines else 0

-- what stands behind the dash of an item and the spaces there
abbrev pub item_text : Line → Bytes
item_text line = skip (drop 1 line.text)

-- the same as a line at its own column
unfoldable pub item_line : Line → Line
item_line line = record { number = line.number; indent = line.indent + (length line.text - length (item_text line)); text = item_text line }

-- a line of a list: what stands behind its dash, if something does, and the deeper lines
unfoldable pub content : Line → List Line → List Line
content line deeper = if is_empty (item_text line) then deeper else item_line line ∷ deeper

-- ---- the kinds of blocks

abbrev pub is_key : Token → Bool
is_key (Key words) = true
is_key _ = false

-- a list or a map begins with this line
abbrev pub begins_block : Line → Bool
begins_block line = is_dash line.text || is_key (token line.text)

-- a block of one value on one line
unfoldable pub single : ℕ → Line → List Line → Outcome Tree
single depth line [] = flow line.number depth line.text
single depth line (next ∷ others) = flow line.number depth line.text >>= (λ _. refuse next.number kind.Indent)

-- over a reader of the blocks inside
module _ (inner : List Line → Outcome Tree) where
  -- a block inside, or an empty value on this line
  abbrev pub inside : ℕ → List Line → Outcome Tree
  inside number [] = Ok (empty_at number)
  inside number (line ∷ lines) = inner (line ∷ lines)

  -- The items of a list of this indentation, with those that stand before. The number counts the
  -- lines in front that the last item took.
  unfoldable pub items : ℕ → ℕ → List Tree → List Line → Outcome (List Tree)
  items indent taken found [] = Ok found
  items indent (suc taken) found (line ∷ lines) = items indent taken found lines
  items indent zero found (line ∷ lines) =
      if is_item indent line
      then inside line.number (content line (take (deep indent lines) lines)) >>= (λ item. items indent (deep indent lines) (found ++ item ∷ []) lines)
      else refuse line.number kind.Indent

  -- the value behind a key, with the lines that it takes, where a flow value may have this many lists
  -- and maps inside one another
  unfoldable pub value : ℕ → ℕ → Bytes → List Line → Outcome Tree
  value depth number rest lines = if is_empty rest then inside number lines else flow number depth rest

  -- The pairs of a map of this indentation, with the keys and the pairs that stand before. The number
  -- counts the lines in front that the last value took.
  unfoldable pub pairs : ℕ → ℕ → ℕ → List Bytes → List Pair → List Line → Outcome (List Pair)
  pairs depth indent taken seen found [] = Ok found
  pairs depth indent (suc taken) seen found (line ∷ lines) = pairs depth indent taken seen found lines
  pairs depth indent zero seen found (line ∷ lines) =
      if line.indent == indent
      then key line.number kind.NoColon seen (token line.text) >>= (λ k.
      value depth line.number (behind line.text) (take (value_lines indent (behind line.text) lines) lines) >>= (λ v.
      pairs depth indent (value_lines indent (behind line.text) lines) (seen ++ k.text ∷ []) (found ++ pair_at line.number k.text v ∷ []) lines))
      else refuse line.number kind.Indent

-- A block of lines, with lists and maps no deeper than the number.
unfoldable pub block : ℕ → List Line → Outcome Tree
block depth [] = Ok (empty_at 1)
block zero (line ∷ lines) =
    if begins_block line then refuse line.number kind.TooDeep else single 0 line lines
block (suc depth) (line ∷ lines) =
    if is_dash line.text then items (block depth) line.indent 0 [] (line ∷ lines) >>= (λ found. Ok (list_at line.number found))
    else (if is_key (token line.text) then pairs (block depth) depth line.indent 0 [] [] (line ∷ lines) >>= (λ found. Ok (map_at line.number found))
    else single (suc depth) line lines)

-- ---- the whole text

-- how many lists and maps may stand inside one another
abbrev pub max_depth : ℕ
max_depth = 16

-- The tree of a text, or its first fault.
unfoldable pub reading : Bytes → Outcome Tree
reading bytes = lines bytes >>= block max_depth

-- ---- words of the functions that read blocks

-- What a call that reads a block is given: its first line, and the lines behind it.
abbrev pub block_of : ℕ → Line → List Line → Outcome Tree
block_of depth line lines = block depth (line ∷ lines)
