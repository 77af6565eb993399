-- One line more, at the definitions of lists and maps in blocks.
use Rattle.std.proofs.Common.{◌≡◌, ℕ, suc, zero, ◌+◌, ◌-◌, ◌<◌, true, false, cond, eqb, List, [], ◌∷◌, ◌++◌, length, take, drop, get_or, Result, Ok, Err, refl, subst, ap, sym, ◌∙◌, arith}
use Rattle.std.proofs.lemmas.List.{at_drop_more, take_all, drop_all, length-drop}
use Rattle.std.proofs.Math.Seq.{drop-nil}
use Rattle.yaml_text.specs.declared.fault.YamlKind.TheVariants.{Indent, NoColon}
use Rattle.yaml_text.specs.declared.fault.YamlError.{YamlError}
use Rattle.yaml_text.specs.declared.tree.Tree.{Tree}
use Rattle.yaml_text.specs.declared.tree.Pair.{Pair}
use Rattle.yaml_text.specs.Outcomes.{Outcome, refuse, Gives, ◌>>=◌}
use Rattle.yaml_text.specs.Lines.{Bytes, Line}
use Rattle.yaml_text.specs.Words.{Words}
use Rattle.yaml_text.specs.Tokens.{token, behind}
use Rattle.yaml_text.specs.SameKeys.{SameKeys}
use Rattle.yaml_text.specs.Flow.{key, empty_at, pair_at, list_at, map_at, as_pair}
use Rattle.yaml_text.specs.Blocks.{is_item, deep, content, inside, items, value, value_lines, pairs, is_dash, is_key, block, single}
use Rattle.yaml_text.proofs.FlowSteps.{bind_same, key_same, keys_more}

-- what a slice from a place on is
pub lines_from_place : (n : ℕ) (ls : List Line) → take (length ls - n) (drop n ls) ≡ drop n ls
lines_from_place n ls = take_all (length ls - n) (drop n ls) (simp length-drop (omega arith))

pub lines_between : (at k : ℕ) (ls : List Line) → take (at + k - at) (drop at ls) ≡ take k (drop at ls)
lines_between at k ls = let e : at + k - at ≡ k = omega arith in ap (λ n. take n (drop at ls)) e

dropped_twice : (at k : ℕ) (ls : List Line) → drop k (drop at ls) ≡ drop (at + k) ls
dropped_twice zero k ls = let e : k ≡ 0 + k = omega arith in ap (λ n. drop n ls) e
dropped_twice (suc at) k [] = drop-nil k ∙ sym (drop-nil (suc at + k))
dropped_twice (suc at) k (l ∷ ls) = let e : suc (at + k) ≡ suc at + k = omega arith in dropped_twice at k ls ∙ ap (λ n. drop n (l ∷ ls)) e

-- the line at a place, and those behind it
next_line : (n : ℕ) (ls : List Line) (next : Line) → n < length ls → next ≡ get_or ls n next → drop n ls ≡ next ∷ drop (n + 1) ls
next_line n ls next within is = at_drop_more (λ x. x) ls n next within ∙ ap (λ l. l ∷ drop (n + 1) ls) (sym is)

-- ---- lists

items_skip : (inner : List Line → Outcome Tree) (indent k : ℕ) (found : List Tree) (ls : List Line) → items inner indent k found ls ≡ items inner indent 0 found (drop k ls)
unfolding items
items_skip inner indent zero found ls = refl
items_skip inner indent (suc k) found [] = refl
items_skip inner indent (suc k) found (l ∷ ls) = items_skip inner indent k found ls

items_end : (inner : List Line → Outcome Tree) (indent : ℕ) (found : List Tree) → items inner indent 0 found [] ≡ Ok found
unfolding items
items_end inner indent found = refl

item_line_wrong : (inner : List Line → Outcome Tree) (indent : ℕ) (found : List Tree) (line : Line) (ls : List Line) → is_item indent line ≡ false
    → items inner indent 0 found (line ∷ ls) ≡ refuse line.number Indent
unfolding items
item_line_wrong inner indent found line ls h = rw h refl

item_line_right : (inner : List Line → Outcome Tree) (indent : ℕ) (found : List Tree) (line : Line) (ls : List Line) → is_item indent line ≡ true
    → items inner indent 0 found (line ∷ ls)
    ≡ (inside inner line.number (content line (take (deep indent ls) ls)) >>= (λ item. items inner indent (deep indent ls) (found ++ item ∷ []) ls))
unfolding items
item_line_right inner indent found line ls h = rw h refl

pub item_refused : {whole : Outcome (List Tree)} (inner : List Line → Outcome Tree) (indent : ℕ) (found : List Tree) (line : Line) (ls : List Line)
    → whole ≡ items inner indent 0 found (line ∷ ls) → is_item indent line ≡ false → whole ≡ refuse line.number Indent
item_refused inner indent found line ls so_far h = so_far ∙ item_line_wrong inner indent found line ls h

item_taken : {whole : Outcome (List Tree)} (inner : List Line → Outcome Tree) (indent : ℕ) (found : List Tree) (line : Line) (rest taken : List Line) (at k : ℕ)
    → whole ≡ items inner indent 0 found (line ∷ drop at rest) → is_item indent line ≡ true
    → k ≡ deep indent (take (length rest - at) (drop at rest)) → taken ≡ take k (drop at rest)
    → whole ≡ (inside inner line.number (content line taken) >>= (λ item. items inner indent 0 (found ++ item ∷ []) (drop (at + k) rest)))
item_taken inner indent found line rest taken at k so_far h count part =
    let same : k ≡ deep indent (drop at rest) = count ∙ ap (deep indent) (lines_from_place at rest) in
    so_far ∙ item_line_right inner indent found line (drop at rest) h
    ∙ ap (λ n. inside inner line.number (content line (take n (drop at rest))) >>= (λ item. items inner indent n (found ++ item ∷ []) (drop at rest))) (sym same)
    ∙ ap (λ ls. inside inner line.number (content line ls) >>= (λ item. items inner indent k (found ++ item ∷ []) (drop at rest))) (sym part)
    ∙ bind_same (inside inner line.number (content line taken)) _ _ (λ item.
    items_skip inner indent k (found ++ item ∷ []) (drop at rest) ∙ ap (items inner indent 0 (found ++ item ∷ [])) (dropped_twice at k rest))

pub item_failed : {whole : Outcome (List Tree)} (inner : List Line → Outcome Tree) (indent : ℕ) (found : List Tree) (line : Line) (rest taken : List Line) (at k : ℕ) (e : YamlError)
    → whole ≡ items inner indent 0 found (line ∷ drop at rest) → is_item indent line ≡ true
    → k ≡ deep indent (take (length rest - at) (drop at rest)) → taken ≡ take k (drop at rest)
    → inside inner line.number (content line taken) ≡ Err e → whole ≡ Err e
item_failed inner indent found line rest taken at k e so_far h count part failed =
    item_taken inner indent found line rest taken at k so_far h count part ∙ ap (λ o. o >>= (λ item. items inner indent 0 (found ++ item ∷ []) (drop (at + k) rest))) failed

pub item_last : {whole : Outcome (List Tree)} (inner : List Line → Outcome Tree) (indent : ℕ) (found : List Tree) (line : Line) (rest taken : List Line) (at k : ℕ) (item : Tree)
    → whole ≡ items inner indent 0 found (line ∷ drop at rest) → is_item indent line ≡ true
    → k ≡ deep indent (take (length rest - at) (drop at rest)) → taken ≡ take k (drop at rest)
    → inside inner line.number (content line taken) ≡ Ok item → at + k ≡ length rest → whole ≡ Ok (found ++ item ∷ [])
item_last inner indent found line rest taken at k item so_far h count part read ends =
    item_taken inner indent found line rest taken at k so_far h count part
    ∙ ap (λ o. o >>= (λ x. items inner indent 0 (found ++ x ∷ []) (drop (at + k) rest))) read
    ∙ ap (items inner indent 0 (found ++ item ∷ [])) (drop_all (at + k) rest (omega arith)) ∙ items_end inner indent (found ++ item ∷ [])

pub item_more : {whole : Outcome (List Tree)} (inner : List Line → Outcome Tree) (indent : ℕ) (found : List Tree) (line next : Line) (rest taken : List Line) (at k : ℕ) (item : Tree)
    → whole ≡ items inner indent 0 found (line ∷ drop at rest) → is_item indent line ≡ true
    → k ≡ deep indent (take (length rest - at) (drop at rest)) → taken ≡ take k (drop at rest)
    → inside inner line.number (content line taken) ≡ Ok item → at + k < length rest → next ≡ get_or rest (at + k) next
    → whole ≡ items inner indent 0 (found ++ item ∷ []) (next ∷ drop (at + k + 1) rest)
item_more inner indent found line next rest taken at k item so_far h count part read within is =
    item_taken inner indent found line rest taken at k so_far h count part
    ∙ ap (λ o. o >>= (λ x. items inner indent 0 (found ++ x ∷ []) (drop (at + k) rest))) read
    ∙ ap (items inner indent 0 (found ++ item ∷ [])) (next_line (at + k) rest next within is)

-- ---- maps

module _ (inner : List Line → Outcome Tree) (depth indent : ℕ) where
  pairs_skip : (k : ℕ) (seen : List Bytes) (found : List Pair) (ls : List Line) → pairs inner depth indent k seen found ls ≡ pairs inner depth indent 0 seen found (drop k ls)
  unfolding pairs
  pairs_skip zero seen found ls = refl
  pairs_skip (suc k) seen found [] = refl
  pairs_skip (suc k) seen found (l ∷ ls) = pairs_skip k seen found ls

  pairs_end : (seen : List Bytes) (found : List Pair) → pairs inner depth indent 0 seen found [] ≡ Ok found
  unfolding pairs
  pairs_end seen found = refl

  pair_line_wrong : (seen : List Bytes) (found : List Pair) (line : Line) (ls : List Line) → eqb line.indent indent ≡ false
      → pairs inner depth indent 0 seen found (line ∷ ls) ≡ refuse line.number Indent
  unfolding pairs
  pair_line_wrong seen found line ls h = rw h refl

  -- what a line of a map and those behind it give, where its value takes n of them
  abbrev pub after_line : List Bytes → List Pair → Line → List Line → ℕ → Outcome (List Pair)
  after_line seen found line ls n =
      key line.number NoColon seen (token line.text) >>= (λ k. value inner depth line.number (behind line.text) (take n ls) >>= (λ v.
      pairs inner depth indent n (seen ++ k.text ∷ []) (found ++ pair_at line.number k.text v ∷ []) ls))

  pair_line_right : (seen : List Bytes) (found : List Pair) (line : Line) (ls : List Line) → eqb line.indent indent ≡ true
      → pairs inner depth indent 0 seen found (line ∷ ls) ≡ after_line seen found line ls (value_lines indent (behind line.text) ls)
  unfolding pairs
  pair_line_right seen found line ls h = rw h refl

  -- The pairs don't depend on how the keys before them are kept.
  pairs_same : (k : ℕ) (xs ys : List Bytes) (found : List Pair) (ls : List Line) → SameKeys xs ys → pairs inner depth indent k xs found ls ≡ pairs inner depth indent k ys found ls
  unfolding pairs
  pairs_same zero xs ys found [] same = refl
  pairs_same (suc k) xs ys found [] same = refl
  pairs_same (suc k) xs ys found (l ∷ ls) same = pairs_same k xs ys found ls same
  pairs_same zero xs ys found (l ∷ ls) same =
      ap (λ o. cond (eqb l.indent indent) o (refuse l.number Indent))
      (ap (λ o. o >>= (λ k. value inner depth l.number (behind l.text) (take (value_lines indent (behind l.text) ls) ls) >>= (λ v.
      pairs inner depth indent (value_lines indent (behind l.text) ls) (xs ++ k.text ∷ []) (found ++ pair_at l.number k.text v ∷ []) ls)))
      (key_same l.number NoColon xs ys same (token l.text))
      ∙ bind_same (key l.number NoColon ys (token l.text)) _ _ (λ k.
      bind_same (value inner depth l.number (behind l.text) (take (value_lines indent (behind l.text) ls) ls)) _ _ (λ v.
      pairs_same (value_lines indent (behind l.text) ls) (xs ++ k.text ∷ []) (ys ++ k.text ∷ []) (found ++ pair_at l.number k.text v ∷ []) ls (keys_more xs ys k.text same))))

  pub pair_refused : {whole : Outcome (List Pair)} (seen : List Bytes) (found : List Pair) (line : Line) (ls : List Line)
      → whole ≡ pairs inner depth indent 0 seen found (line ∷ ls) → eqb line.indent indent ≡ false → whole ≡ refuse line.number Indent
  pair_refused seen found line ls so_far h = so_far ∙ pair_line_wrong seen found line ls h

  pub pair_unnamed : {whole : Outcome (List Pair)} (seen : List Bytes) (found : List Pair) (line : Line) (ls : List Line) (e : YamlError)
      → whole ≡ pairs inner depth indent 0 seen found (line ∷ ls) → eqb line.indent indent ≡ true → key line.number NoColon seen (token line.text) ≡ Err e → whole ≡ Err e
  pair_unnamed seen found line ls e so_far h failed =
      so_far ∙ pair_line_right seen found line ls h
      ∙ ap (λ o. o >>= (λ k. value inner depth line.number (behind line.text) (take (value_lines indent (behind line.text) ls) ls) >>= (λ v.
      pairs inner depth indent (value_lines indent (behind line.text) ls) (seen ++ k.text ∷ []) (found ++ pair_at line.number k.text v ∷ []) ls))) failed

  pair_taken : {whole : Outcome (List Pair)} (seen : List Bytes) (found : List Pair) (line : Line) (text : Bytes) (rest taken : List Line) (at n : ℕ) (k : Words)
      → whole ≡ pairs inner depth indent 0 seen found (line ∷ drop at rest) → eqb line.indent indent ≡ true
      → text ≡ behind line.text → n ≡ value_lines indent text (take (length rest - at) (drop at rest)) → taken ≡ take n (drop at rest)
      → key line.number NoColon seen (token line.text) ≡ Ok k
      → whole ≡ (value inner depth line.number text taken >>= (λ v. pairs inner depth indent 0 (seen ++ k.text ∷ []) (found ++ pair_at line.number k.text v ∷ []) (drop (at + n) rest)))
  pair_taken seen found line text rest taken at n k so_far h here count part named =
      let same : n ≡ value_lines indent (behind line.text) (drop at rest) =
      count ∙ ap (value_lines indent text) (lines_from_place at rest) ∙ ap (λ bs. value_lines indent bs (drop at rest)) here in
      so_far ∙ pair_line_right seen found line (drop at rest) h ∙ ap (after_line seen found line (drop at rest)) (sym same)
      ∙ ap (λ o. o >>= (λ x. value inner depth line.number (behind line.text) (take n (drop at rest)) >>= (λ v.
      pairs inner depth indent n (seen ++ x.text ∷ []) (found ++ pair_at line.number x.text v ∷ []) (drop at rest)))) named
      ∙ ap (λ bs. value inner depth line.number bs (take n (drop at rest)) >>= (λ v. pairs inner depth indent n (seen ++ k.text ∷ []) (found ++ pair_at line.number k.text v ∷ []) (drop at rest))) (sym here)
      ∙ ap (λ ls. value inner depth line.number text ls >>= (λ v. pairs inner depth indent n (seen ++ k.text ∷ []) (found ++ pair_at line.number k.text v ∷ []) (drop at rest))) (sym part)
      ∙ bind_same (value inner depth line.number text taken) _ _ (λ v.
      pairs_skip n (seen ++ k.text ∷ []) (found ++ pair_at line.number k.text v ∷ []) (drop at rest)
      ∙ ap (pairs inner depth indent 0 (seen ++ k.text ∷ []) (found ++ pair_at line.number k.text v ∷ [])) (dropped_twice at n rest))

  pub pair_failed : {whole : Outcome (List Pair)} (seen : List Bytes) (found : List Pair) (line : Line) (text : Bytes) (rest taken : List Line) (at n : ℕ) (k : Words) (e : YamlError)
      → whole ≡ pairs inner depth indent 0 seen found (line ∷ drop at rest) → eqb line.indent indent ≡ true
      → text ≡ behind line.text → n ≡ value_lines indent text (take (length rest - at) (drop at rest)) → taken ≡ take n (drop at rest)
      → key line.number NoColon seen (token line.text) ≡ Ok k → value inner depth line.number text taken ≡ Err e → whole ≡ Err e
  pair_failed seen found line text rest taken at n k e so_far h here count part named failed =
      pair_taken seen found line text rest taken at n k so_far h here count part named
      ∙ ap (λ o. o >>= (λ v. pairs inner depth indent 0 (seen ++ k.text ∷ []) (found ++ pair_at line.number k.text v ∷ []) (drop (at + n) rest))) failed

  pair_read : {whole : Outcome (List Pair)} (seen keys : List Bytes) (found : List Pair) (line : Line) (text : Bytes) (rest taken : List Line) (at n : ℕ) (k : Words) (v : Tree) (p : Pair)
      → whole ≡ pairs inner depth indent 0 seen found (line ∷ drop at rest) → eqb line.indent indent ≡ true
      → text ≡ behind line.text → n ≡ value_lines indent text (take (length rest - at) (drop at rest)) → taken ≡ take n (drop at rest)
      → key line.number NoColon seen (token line.text) ≡ Ok k → value inner depth line.number text taken ≡ Ok v
      → SameKeys keys (seen ++ k.text ∷ []) → as_pair line.number k.text v ≡ Ok p
      → whole ≡ pairs inner depth indent 0 keys (found ++ p ∷ []) (drop (at + n) rest)
  pair_read seen keys found line text rest taken at n k v p so_far h here count part named read same made =
      let same_pair : pair_at line.number k.text v ≡ p = cc in
      pair_taken seen found line text rest taken at n k so_far h here count part named
      ∙ ap (λ o. o >>= (λ x. pairs inner depth indent 0 (seen ++ k.text ∷ []) (found ++ pair_at line.number k.text x ∷ []) (drop (at + n) rest))) read
      ∙ ap (λ q. pairs inner depth indent 0 (seen ++ k.text ∷ []) (found ++ q ∷ []) (drop (at + n) rest)) same_pair
      ∙ sym (pairs_same 0 keys (seen ++ k.text ∷ []) (found ++ p ∷ []) (drop (at + n) rest) same)

  pub pair_ends : {whole : Outcome (List Pair)} (seen keys : List Bytes) (found : List Pair) (line : Line) (text : Bytes) (rest taken : List Line) (at n : ℕ) (k : Words) (v : Tree) (p : Pair)
      → whole ≡ pairs inner depth indent 0 seen found (line ∷ drop at rest) → eqb line.indent indent ≡ true
      → text ≡ behind line.text → n ≡ value_lines indent text (take (length rest - at) (drop at rest)) → taken ≡ take n (drop at rest)
      → key line.number NoColon seen (token line.text) ≡ Ok k → value inner depth line.number text taken ≡ Ok v
      → SameKeys keys (seen ++ k.text ∷ []) → as_pair line.number k.text v ≡ Ok p → at + n ≡ length rest
      → whole ≡ Ok (found ++ p ∷ [])
  pair_ends seen keys found line text rest taken at n k v p so_far h here count part named read same made ends =
      pair_read seen keys found line text rest taken at n k v p so_far h here count part named read same made
      ∙ ap (pairs inner depth indent 0 keys (found ++ p ∷ [])) (drop_all (at + n) rest (omega arith)) ∙ pairs_end keys (found ++ p ∷ [])

  pub pair_goes : {whole : Outcome (List Pair)} (seen keys : List Bytes) (found : List Pair) (line next : Line) (text : Bytes) (rest taken : List Line) (at n : ℕ) (k : Words) (v : Tree) (p : Pair)
      → whole ≡ pairs inner depth indent 0 seen found (line ∷ drop at rest) → eqb line.indent indent ≡ true
      → text ≡ behind line.text → n ≡ value_lines indent text (take (length rest - at) (drop at rest)) → taken ≡ take n (drop at rest)
      → key line.number NoColon seen (token line.text) ≡ Ok k → value inner depth line.number text taken ≡ Ok v
      → SameKeys keys (seen ++ k.text ∷ []) → as_pair line.number k.text v ≡ Ok p → at + n < length rest → next ≡ get_or rest (at + n) next
      → whole ≡ pairs inner depth indent 0 keys (found ++ p ∷ []) (next ∷ drop (at + n + 1) rest)
  pair_goes seen keys found line next text rest taken at n k v p so_far h here count part named read same made within is =
      pair_read seen keys found line text rest taken at n k v p so_far h here count part named read same made
      ∙ ap (pairs inner depth indent 0 keys (found ++ p ∷ [])) (next_line (at + n) rest next within is)

-- ---- blocks by their first line

pub block_list : (depth : ℕ) (line : Line) (ls : List Line) → is_dash line.text ≡ true
    → block (depth + 1) (line ∷ ls) ≡ (items (block depth) line.indent 0 [] (line ∷ ls) >>= (λ found. Ok (list_at line.number found)))
unfolding block
block_list depth line ls dash = let e : depth + 1 ≡ suc depth = omega arith in ap (λ d. block d (line ∷ ls)) e ∙ rw dash refl

pub block_map : (depth : ℕ) (line : Line) (ls : List Line) → is_dash line.text ≡ false → is_key (token line.text) ≡ true
    → block (depth + 1) (line ∷ ls) ≡ (pairs (block depth) depth line.indent 0 [] [] (line ∷ ls) >>= (λ found. Ok (map_at line.number found)))
unfolding block
block_map depth line ls dash named = let e : depth + 1 ≡ suc depth = omega arith in ap (λ d. block d (line ∷ ls)) e ∙ rw (dash, named) refl

pub block_single : (depth : ℕ) (line : Line) (ls : List Line) → is_dash line.text ≡ false → is_key (token line.text) ≡ false
    → block (depth + 1) (line ∷ ls) ≡ single (depth + 1) line ls
unfolding block
block_single depth line ls dash named = let e : depth + 1 ≡ suc depth = omega arith in ap (λ d. block d (line ∷ ls)) e ∙ rw (dash, named) (ap (λ d. single d line ls) (sym e))

-- no line
pub block_none : (depth : ℕ) → block depth [] ≡ Ok (empty_at 1)
unfolding block
block_none zero = refl
block_none (suc depth) = refl

-- a slice by its first element and the others
pub first_and_others : (ls : List Line) (first : Line) → 0 < length ls → first ≡ get_or ls 0 first → ls ≡ first ∷ take (length ls - 1) (drop 1 ls)
first_and_others ls first some is = next_line 0 ls first some is ∙ ap (λ t. first ∷ t) (sym (lines_from_place 1 ls))

pub block_empty : (depth : ℕ) (ls : List Line) → length ls ≡ 0 → block depth ls ≡ Ok (empty_at 1)
block_empty depth [] none = block_none depth
block_empty depth (l ∷ ls) none = absurd (omega arith)

pub block_whole : (depth : ℕ) (ls : List Line) (first : Line) (r : Result Tree YamlError) → 0 < length ls → first ≡ get_or ls 0 first
    → Gives (block depth (first ∷ take (length ls - 1) (drop 1 ls))) r → Gives (block depth ls) r
block_whole depth ls first r some is h = let P : List Line → Type 0 = λ t. Gives (block depth t) r in subst P (sym (first_and_others ls first some is)) h
