-- The definitions answer a value or a fault.
use Rattle.std.proofs.Common.{ℕ, suc, zero, ◌+◌, Bool, true, false, cond, eqb, List, [], ◌∷◌, ◌++◌, take, Option, Some, None, Ok, Err}
use Rattle.yaml_text.specs.declared.fault.YamlError.TheVariants.{Fault, OutOfMemory}
use Rattle.yaml_text.specs.declared.fault.YamlKind.{YamlKind}
use Rattle.yaml_text.specs.declared.fault.YamlKind.TheVariants as kind
use Rattle.yaml_text.specs.declared.token.Token.{Token}
use Rattle.yaml_text.specs.declared.token.Token.TheVariants.{OpenList, CloseList, OpenMap, CloseMap, Comma, Key, Scalar, Bad}
use Rattle.yaml_text.specs.declared.tree.Tree.{Tree}
use Rattle.yaml_text.specs.declared.tree.Pair.{Pair}
use Rattle.yaml_text.specs.Outcomes.{Outcome, refuse, ◌>>=◌}
use Rattle.yaml_text.specs.Lines.{Bytes, Line, is_empty, fault_of, bare, kept, judged, lines_from, lines, cut}
use Rattle.yaml_text.specs.Words.{Words}
use Rattle.yaml_text.specs.Tokens.{token, behind, is_indicator, scalar_fault, key_fault}
use Rattle.yaml_text.specs.SameKeys.{has_key}
use Rattle.yaml_text.specs.Flow as f
use Rattle.yaml_text.specs.Blocks as b
use Rattle.yaml_text.specs.Laws.{IsSettled}

then_settled : {A B : Type 0} (o : Outcome A) (g : A → Outcome B) → IsSettled o → ((a : A) → IsSettled (g a)) → IsSettled (o >>= g)
then_settled (Ok a) g h k = k a
then_settled (Err (Fault x)) g h k = tt
then_settled (Err OutOfMemory) g h k = h

cond_settled : {A : Type 0} (t : Bool) (x y : Outcome A) → IsSettled x → IsSettled y → IsSettled (cond t x y)
cond_settled true x y h k = h
cond_settled false x y h k = k

-- ---- lines

judged_settled : (n : ℕ) (o : Option YamlKind) (found : List Line) → IsSettled (judged n o found)
judged_settled n None found = tt
judged_settled n (Some k) found = tt

lines_from_settled : (n : ℕ) (found : List Line) (raws : List Bytes) → IsSettled (lines_from n found raws)
unfolding lines_from
lines_from_settled n found [] = tt
lines_from_settled n found (raw ∷ raws) =
    then_settled (judged n (fault_of (bare raw)) (kept n (bare raw) found)) _ (judged_settled n (fault_of (bare raw)) (kept n (bare raw) found))
    (λ more. lines_from_settled (n + 1) more raws)

lines_settled : (bytes : Bytes) → IsSettled (lines bytes)
unfolding lines
lines_settled bytes = lines_from_settled 1 [] (cut bytes)

-- ---- values on one line

unless_settled : {A : Type 0} (line : ℕ) (o : Option YamlKind) (x : Outcome A) → IsSettled x → IsSettled (f.unless_fault line o x)
unless_settled line None x h = h
unless_settled line (Some k) x h = tt

scalar_settled : (line : ℕ) (w : Words) → IsSettled (f.scalar line w)
unfolding f.scalar
scalar_settled line w = unless_settled line (scalar_fault w) (Ok (f.scalar_at line w.text)) tt

new_key_settled : (line : ℕ) (seen : List Bytes) (w : Words) → IsSettled (f.new_key line seen w)
unfolding f.new_key
new_key_settled line seen w =
    let twice : Outcome (Unit {0}) = refuse line kind.DuplicateKey in
    let fine : Outcome (Unit {0}) = Ok tt in
    unless_settled line (key_fault w) (cond (has_key w.text seen) twice fine) (cond_settled (has_key w.text seen) twice fine tt tt)

key_settled : (line : ℕ) (other : YamlKind) (seen : List Bytes) (t : Token) → IsSettled (f.key line other seen t)
key_settled line other seen OpenList = tt
key_settled line other seen CloseList = tt
key_settled line other seen OpenMap = tt
key_settled line other seen CloseMap = tt
key_settled line other seen Comma = tt
key_settled line other seen (Key w) = then_settled (f.new_key line seen w) _ (new_key_settled line seen w) (λ _. tt)
key_settled line other seen (Scalar w) = tt
key_settled line other seen Bad = tt

item_settled : {A : Type 0} (line : ℕ) (t : Token) (more all : Outcome A) → IsSettled more → IsSettled all → IsSettled (f.behind_item line t more all)
item_settled line OpenList more all h k = tt
item_settled line CloseList more all h k = k
item_settled line OpenMap more all h k = tt
item_settled line CloseMap more all h k = tt
item_settled line Comma more all h k = h
item_settled line (Key w) more all h k = tt
item_settled line (Scalar w) more all h k = tt
item_settled line Bad more all h k = tt

pair_settled : {A : Type 0} (line : ℕ) (t : Token) (more all : Outcome A) → IsSettled more → IsSettled all → IsSettled (f.behind_pair line t more all)
pair_settled line OpenList more all h k = tt
pair_settled line CloseList more all h k = tt
pair_settled line OpenMap more all h k = tt
pair_settled line CloseMap more all h k = k
pair_settled line Comma more all h k = h
pair_settled line (Key w) more all h k = tt
pair_settled line (Scalar w) more all h k = tt
pair_settled line Bad more all h k = tt

module _ (line : ℕ) (inner : f.Parser Tree) (settled : (text : Bytes) → IsSettled (inner text)) where
  items_from_settled : (n : ℕ) (found : List Tree) (text : Bytes) → IsSettled (f.items_from line inner n found text)
  unfolding f.items_from
  items_from_settled zero found text = tt
  items_from_settled (suc n) found text =
      then_settled (inner text) _ (settled text) (λ x. item_settled line (token x.1) _ _ (items_from_settled n (found ++ x.0 ∷ []) (behind x.1)) tt)

  items_by_settled : (t : Token) (text : Bytes) → IsSettled (f.items_by line inner t text)
  items_by_settled OpenList text = items_from_settled _ [] text
  items_by_settled CloseList text = tt
  items_by_settled OpenMap text = items_from_settled _ [] text
  items_by_settled CloseMap text = items_from_settled _ [] text
  items_by_settled Comma text = items_from_settled _ [] text
  items_by_settled (Key w) text = items_from_settled _ [] text
  items_by_settled (Scalar w) text = items_from_settled _ [] text
  items_by_settled Bad text = items_from_settled _ [] text

  items_settled : (text : Bytes) → IsSettled (f.items line inner text)
  unfolding f.items
  items_settled text = items_by_settled (token text) text

  pairs_from_settled : (n : ℕ) (seen : List Bytes) (found : List Pair) (text : Bytes) → IsSettled (f.pairs_from line inner n seen found text)
  unfolding f.pairs_from
  pairs_from_settled zero seen found text = tt
  pairs_from_settled (suc n) seen found text =
      then_settled (f.key line kind.Flow seen (token text)) _ (key_settled line kind.Flow seen (token text)) (λ k.
      then_settled (inner (behind text)) _ (settled (behind text)) (λ x.
      pair_settled line (token x.1) _ _ (pairs_from_settled n (seen ++ k.text ∷ []) (found ++ f.pair_at line k.text x.0 ∷ []) (behind x.1)) tt))

  pairs_by_settled : (t : Token) (text : Bytes) → IsSettled (f.pairs_by line inner t text)
  pairs_by_settled OpenList text = pairs_from_settled _ [] [] text
  pairs_by_settled CloseList text = pairs_from_settled _ [] [] text
  pairs_by_settled OpenMap text = pairs_from_settled _ [] [] text
  pairs_by_settled CloseMap text = tt
  pairs_by_settled Comma text = pairs_from_settled _ [] [] text
  pairs_by_settled (Key w) text = pairs_from_settled _ [] [] text
  pairs_by_settled (Scalar w) text = pairs_from_settled _ [] [] text
  pairs_by_settled Bad text = pairs_from_settled _ [] [] text

  pairs_settled : (text : Bytes) → IsSettled (f.pairs line inner text)
  unfolding f.pairs
  pairs_settled text = pairs_by_settled (token text) text

by_settled : (line : ℕ) (as_list : f.Parser (List Tree)) (as_map : f.Parser (List Pair)) (t : Token) (rest : Bytes)
    → IsSettled (as_list rest) → IsSettled (as_map rest) → IsSettled (f.value_by line as_list as_map t rest)
by_settled line as_list as_map OpenList rest h k = then_settled (as_list rest) _ h (λ _. tt)
by_settled line as_list as_map CloseList rest h k = tt
by_settled line as_list as_map OpenMap rest h k = then_settled (as_map rest) _ k (λ _. tt)
by_settled line as_list as_map CloseMap rest h k = tt
by_settled line as_list as_map Comma rest h k = tt
by_settled line as_list as_map (Key w) rest h k = tt
by_settled line as_list as_map (Scalar w) rest h k = then_settled (f.scalar line w) _ (scalar_settled line w) (λ _. tt)
by_settled line as_list as_map Bad rest h k = tt

value_settled : (line depth : ℕ) (text : Bytes) → IsSettled (f.value line depth text)
unfolding f.value
value_settled line zero text = by_settled line (λ r. refuse line kind.TooDeep) (λ r. refuse line kind.TooDeep) (token text) (behind text) tt tt
value_settled line (suc depth) text =
    by_settled line (f.items line (f.value line depth)) (f.pairs line (f.value line depth)) (token text) (behind text)
    (items_settled line (f.value line depth) (value_settled line depth) (behind text))
    (pairs_settled line (f.value line depth) (value_settled line depth) (behind text))

flow_settled : (line depth : ℕ) (text : Bytes) → IsSettled (f.flow line depth text)
unfolding f.flow
flow_settled line depth text =
    let sign : Outcome Tree = refuse line kind.Indicator in
    let none : Outcome Tree = refuse line kind.Flow in
    let read : Outcome Tree = f.value line depth text >>= (λ p. Ok p.0) in
    cond_settled (is_indicator text) sign (cond (f.is_flow text) read none) tt
    (cond_settled (f.is_flow text) read none (then_settled (f.value line depth text) _ (value_settled line depth text) (λ _. tt)) tt)

-- ---- blocks

single_settled : (depth : ℕ) (line : Line) (ls : List Line) → IsSettled (b.single depth line ls)
unfolding b.single
single_settled depth line [] = flow_settled line.number depth line.text
single_settled depth line (l ∷ ls) = then_settled (f.flow line.number depth line.text) _ (flow_settled line.number depth line.text) (λ _. tt)

module _ (inner : List Line → Outcome Tree) (settled : (ls : List Line) → IsSettled (inner ls)) where
  inside_settled : (n : ℕ) (ls : List Line) → IsSettled (b.inside inner n ls)
  inside_settled n [] = tt
  inside_settled n (l ∷ ls) = settled (l ∷ ls)

  list_settled : (indent k : ℕ) (found : List Tree) (ls : List Line) → IsSettled (b.items inner indent k found ls)
  unfolding b.items
  list_settled indent zero found [] = tt
  list_settled indent (suc k) found [] = tt
  list_settled indent (suc k) found (l ∷ ls) = list_settled indent k found ls
  list_settled indent zero found (l ∷ ls) =
      let taken = b.content l (take (b.deep indent ls) ls) in
      let read : Outcome (List Tree) = b.inside inner l.number taken >>= (λ item. b.items inner indent (b.deep indent ls) (found ++ item ∷ []) ls) in
      let wrong : Outcome (List Tree) = refuse l.number kind.Indent in
      cond_settled (b.is_item indent l) read wrong
      (then_settled (b.inside inner l.number taken) _ (inside_settled l.number taken) (λ item. list_settled indent (b.deep indent ls) (found ++ item ∷ []) ls))
      tt

  below_settled : (depth n : ℕ) (rest : Bytes) (ls : List Line) → IsSettled (b.value inner depth n rest ls)
  unfolding b.value
  below_settled depth n rest ls = cond_settled (is_empty rest) (b.inside inner n ls) (f.flow n depth rest) (inside_settled n ls) (flow_settled n depth rest)

  map_settled : (depth indent k : ℕ) (seen : List Bytes) (found : List Pair) (ls : List Line) → IsSettled (b.pairs inner depth indent k seen found ls)
  unfolding b.pairs
  map_settled depth indent zero seen found [] = tt
  map_settled depth indent (suc k) seen found [] = tt
  map_settled depth indent (suc k) seen found (l ∷ ls) = map_settled depth indent k seen found ls
  map_settled depth indent zero seen found (l ∷ ls) =
      let n = b.value_lines indent (behind l.text) ls in
      let go : Words → Outcome (List Pair) = λ k. b.value inner depth l.number (behind l.text) (take n ls) >>= (λ v.
      b.pairs inner depth indent n (seen ++ k.text ∷ []) (found ++ f.pair_at l.number k.text v ∷ []) ls) in
      let read : Outcome (List Pair) = f.key l.number kind.NoColon seen (token l.text) >>= go in
      let wrong : Outcome (List Pair) = refuse l.number kind.Indent in
      cond_settled (eqb l.indent indent) read wrong
      (then_settled (f.key l.number kind.NoColon seen (token l.text)) go (key_settled l.number kind.NoColon seen (token l.text)) (λ k.
      then_settled (b.value inner depth l.number (behind l.text) (take n ls)) _ (below_settled depth l.number (behind l.text) (take n ls))
      (λ v. map_settled depth indent n (seen ++ k.text ∷ []) (found ++ f.pair_at l.number k.text v ∷ []) ls)))
      tt

block_settled : (depth : ℕ) (ls : List Line) → IsSettled (b.block depth ls)
unfolding b.block
block_settled zero [] = tt
block_settled (suc depth) [] = tt
block_settled zero (l ∷ ls) =
    let deep : Outcome Tree = refuse l.number kind.TooDeep in
    cond_settled (b.begins_block l) deep (b.single 0 l ls) tt (single_settled 0 l ls)
block_settled (suc depth) (l ∷ ls) =
    let listed : Outcome Tree = b.items (b.block depth) l.indent 0 [] (l ∷ ls) >>= (λ found. Ok (f.list_at l.number found)) in
    let mapped : Outcome Tree = b.pairs (b.block depth) depth l.indent 0 [] [] (l ∷ ls) >>= (λ found. Ok (f.map_at l.number found)) in
    let alone : Outcome Tree = b.single (suc depth) l ls in
    cond_settled (b.is_dash l.text) listed (cond (b.is_key (token l.text)) mapped alone)
    (then_settled (b.items (b.block depth) l.indent 0 [] (l ∷ ls)) _ (list_settled (b.block depth) (block_settled depth) l.indent 0 [] (l ∷ ls)) (λ _. tt))
    (cond_settled (b.is_key (token l.text)) mapped alone
    (then_settled (b.pairs (b.block depth) depth l.indent 0 [] [] (l ∷ ls)) _ (map_settled (b.block depth) (block_settled depth) depth l.indent 0 [] [] (l ∷ ls)) (λ _. tt))
    (single_settled (suc depth) l ls))

pub reading_settled : (bytes : Bytes) → IsSettled (b.reading bytes)
unfolding b.reading
reading_settled bytes = then_settled (lines bytes) (b.block b.max_depth) (lines_settled bytes) (block_settled b.max_depth)
