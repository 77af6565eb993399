-- A text that is a value as a whole is never refused as none while it is read.
use Rattle.std.proofs.Common.{◌≡◌, ◌≢◌, ℕ, suc, zero, ◌+◌, ◌≤◌, Bool, true, false, ◌&&◌, cond, List, [], ◌∷◌, ◌++◌, length, codes, Option, Some, None, Ok, Err, refl, ap, sym, subst, ◌∙◌, arith}
use Rattle.std.specs.Str.{bytes_eq}
use Rattle.std.proofs.lemmas.Bool.{true≢false}
use Rattle.yaml_text.specs.declared.fault.YamlError.{YamlError}
use Rattle.yaml_text.specs.declared.fault.YamlError.TheVariants.{Fault, OutOfMemory}
use Rattle.yaml_text.specs.declared.fault.YamlKind.{YamlKind}
use Rattle.yaml_text.specs.declared.fault.YamlKind.TheVariants as kind
use Rattle.yaml_text.specs.declared.flow.Goal.{Goal}
use Rattle.yaml_text.specs.declared.flow.Goal.TheVariants.{Value, ItemOrEnd, NextItem, PairOrEnd, Pair, NextPair}
use Rattle.yaml_text.specs.declared.token.Token.{Token}
use Rattle.yaml_text.specs.declared.token.Token.TheVariants.{OpenList, CloseList, OpenMap, CloseMap, Comma, Key, Scalar, Bad}
use Rattle.yaml_text.specs.declared.tree.Tree.{Tree}
use Rattle.yaml_text.specs.declared.tree.Pair as p
use Rattle.yaml_text.specs.Outcomes.{Outcome, refuse, ◌>>=◌}
use Rattle.yaml_text.specs.Lines.{Bytes}
use Rattle.yaml_text.specs.SameKeys.{has_key}
use Rattle.yaml_text.specs.Words.{Words}
use Rattle.yaml_text.specs.Tokens.{piece, token, behind, is_indicator, is_block_scalar, scalar_fault, key_fault}
use Rattle.yaml_text.specs.Flow.{for_value, and_then, step, is_flow, Parser, behind_item, behind_pair, items_from, items_by, items, key, new_key, unless_fault, pair_at, pairs_from, pairs_by, pairs, value_by, value, scalar, scalar_at, list_at, map_at}
use Rattle.yaml_text.proofs.Grammar.{piece_short, no_piece, nothing_fits, fit, fit_at, Ok_same, Err_wrong, first_ok, open_items, value_fit}

-- ---- what is read is shorter

some_piece : (text : Bytes) (t : Token) → token text ≡ t → t ≢ Bad → length (behind text) + 1 ≤ length text
some_piece [] t e other = absurd (other (sym e ∙ no_piece))
some_piece (b ∷ bs) t e other = omega (arith, piece_short b bs)

nothing_behind : behind [] ≡ []
unfolding piece
nothing_behind = refl

behind_short : (text : Bytes) → length (behind text) ≤ length text
behind_short [] = omega (arith, ap length nothing_behind)
behind_short (b ∷ bs) = omega (arith, piece_short b bs)

module _ (line : ℕ) (inner : Parser Tree) (shorter : (text rest : Bytes) (tree : Tree) → inner text ≡ Ok (tree, rest) → length rest + 1 ≤ length text) where
  item_short : (n : ℕ) (found all : List Tree) (r1 rest : Bytes) (t : Token)
      → ((fin : List Tree) → items_from line inner n found (behind r1) ≡ Ok (fin, rest) → length rest ≤ length (behind r1))
      → behind_item line t (items_from line inner n found (behind r1)) (Ok (found, behind r1)) ≡ Ok (all, rest) → length rest ≤ length r1
  item_short n found all r1 rest Comma more h = omega (arith, more all h, behind_short r1)
  item_short n found all r1 rest CloseList more h =
      let same : behind r1 ≡ rest = ap (λ p. p.1) (Ok_same (found, behind r1) (all, rest) h) in omega (arith, behind_short r1, ap length same)
  item_short n found all r1 rest OpenList more h = Err_wrong _ _ h
  item_short n found all r1 rest OpenMap more h = Err_wrong _ _ h
  item_short n found all r1 rest CloseMap more h = Err_wrong _ _ h
  item_short n found all r1 rest (Key w) more h = Err_wrong _ _ h
  item_short n found all r1 rest (Scalar w) more h = Err_wrong _ _ h
  item_short n found all r1 rest Bad more h = Err_wrong _ _ h

  items_from_short : (n : ℕ) (found all : List Tree) (text rest : Bytes) → items_from line inner n found text ≡ Ok (all, rest) → length rest ≤ length text
  unfolding items_from
  items_from_short zero found all text rest h = Err_wrong _ _ h
  items_from_short (suc n) found all text rest h =
      let one = first_ok (inner text) _ (all, rest) h in
      let less : length one.0.1 + 1 ≤ length text = shorter text one.0.1 one.0.0 one.1 in
      let then : length rest ≤ length one.0.1 = item_short n (found ++ one.0.0 ∷ []) all one.0.1 rest (token one.0.1)
      (λ fin k. items_from_short n (found ++ one.0.0 ∷ []) fin (behind one.0.1) rest k) one.2 in
      omega arith

  items_by_short : (t : Token) (all : List Tree) (text rest : Bytes) → items_by line inner t text ≡ Ok (all, rest) → length rest ≤ length text
  items_by_short CloseList all text rest h =
      let same : behind text ≡ rest = ap (λ p. p.1) (Ok_same ([], behind text) (all, rest) h) in omega (arith, behind_short text, ap length same)
  items_by_short OpenList all text rest h = items_from_short _ [] all text rest h
  items_by_short OpenMap all text rest h = items_from_short _ [] all text rest h
  items_by_short CloseMap all text rest h = items_from_short _ [] all text rest h
  items_by_short Comma all text rest h = items_from_short _ [] all text rest h
  items_by_short (Key w) all text rest h = items_from_short _ [] all text rest h
  items_by_short (Scalar w) all text rest h = items_from_short _ [] all text rest h
  items_by_short Bad all text rest h = items_from_short _ [] all text rest h

  items_short : (all : List Tree) (text rest : Bytes) → items line inner text ≡ Ok (all, rest) → length rest ≤ length text
  unfolding items
  items_short all text rest h = items_by_short (token text) all text rest h

  pair_short : (n : ℕ) (seen : List Bytes) (found all : List p.Pair) (r1 rest : Bytes) (t : Token)
      → ((fin : List p.Pair) → pairs_from line inner n seen found (behind r1) ≡ Ok (fin, rest) → length rest ≤ length (behind r1))
      → behind_pair line t (pairs_from line inner n seen found (behind r1)) (Ok (found, behind r1)) ≡ Ok (all, rest) → length rest ≤ length r1
  pair_short n seen found all r1 rest Comma more h = omega (arith, more all h, behind_short r1)
  pair_short n seen found all r1 rest CloseMap more h =
      let same : behind r1 ≡ rest = ap (λ p. p.1) (Ok_same (found, behind r1) (all, rest) h) in omega (arith, behind_short r1, ap length same)
  pair_short n seen found all r1 rest OpenList more h = Err_wrong _ _ h
  pair_short n seen found all r1 rest CloseList more h = Err_wrong _ _ h
  pair_short n seen found all r1 rest OpenMap more h = Err_wrong _ _ h
  pair_short n seen found all r1 rest (Key w) more h = Err_wrong _ _ h
  pair_short n seen found all r1 rest (Scalar w) more h = Err_wrong _ _ h
  pair_short n seen found all r1 rest Bad more h = Err_wrong _ _ h

  pairs_from_short : (n : ℕ) (seen : List Bytes) (found all : List p.Pair) (text rest : Bytes) → pairs_from line inner n seen found text ≡ Ok (all, rest) → length rest ≤ length text
  unfolding pairs_from
  pairs_from_short zero seen found all text rest h = Err_wrong _ _ h
  pairs_from_short (suc n) seen found all text rest h =
      let named = first_ok (key line kind.Flow seen (token text)) _ (all, rest) h in
      let one = first_ok (inner (behind text)) _ (all, rest) named.2 in
      let less : length one.0.1 + 1 ≤ length (behind text) = shorter (behind text) one.0.1 one.0.0 one.1 in
      let then : length rest ≤ length one.0.1 = pair_short n (seen ++ named.0.text ∷ []) (found ++ pair_at line named.0.text one.0.0 ∷ []) all one.0.1 rest (token one.0.1)
      (λ fin k. pairs_from_short n (seen ++ named.0.text ∷ []) (found ++ pair_at line named.0.text one.0.0 ∷ []) fin (behind one.0.1) rest k) one.2 in
      omega (arith, behind_short text)

  pairs_by_short : (t : Token) (all : List p.Pair) (text rest : Bytes) → pairs_by line inner t text ≡ Ok (all, rest) → length rest ≤ length text
  pairs_by_short CloseMap all text rest h =
      let same : behind text ≡ rest = ap (λ p. p.1) (Ok_same ([], behind text) (all, rest) h) in omega (arith, behind_short text, ap length same)
  pairs_by_short OpenList all text rest h = pairs_from_short _ [] [] all text rest h
  pairs_by_short CloseList all text rest h = pairs_from_short _ [] [] all text rest h
  pairs_by_short OpenMap all text rest h = pairs_from_short _ [] [] all text rest h
  pairs_by_short Comma all text rest h = pairs_from_short _ [] [] all text rest h
  pairs_by_short (Key w) all text rest h = pairs_from_short _ [] [] all text rest h
  pairs_by_short (Scalar w) all text rest h = pairs_from_short _ [] [] all text rest h
  pairs_by_short Bad all text rest h = pairs_from_short _ [] [] all text rest h

  pairs_short : (all : List p.Pair) (text rest : Bytes) → pairs line inner text ≡ Ok (all, rest) → length rest ≤ length text
  unfolding pairs
  pairs_short all text rest h = pairs_by_short (token text) all text rest h

by_short : (line : ℕ) (as_list : Parser (List Tree)) (as_map : Parser (List p.Pair)) (t : Token) (text rest : Bytes) (tree : Tree) → token text ≡ t
    → ((all : List Tree) → as_list (behind text) ≡ Ok (all, rest) → length rest ≤ length (behind text))
    → ((all : List p.Pair) → as_map (behind text) ≡ Ok (all, rest) → length rest ≤ length (behind text))
    → value_by line as_list as_map t (behind text) ≡ Ok (tree, rest) → length rest + 1 ≤ length text
by_short line as_list as_map (Scalar w) text rest tree e l m h =
    let one = first_ok (scalar line w) _ (tree, rest) h in
    let same : behind text ≡ rest = ap (λ p. p.1) (Ok_same (one.0, behind text) (tree, rest) one.2) in
    omega (arith, some_piece text (Scalar w) e (λ x. cc), ap length same)
by_short line as_list as_map OpenList text rest tree e l m h =
    let one = first_ok (as_list (behind text)) _ (tree, rest) h in
    let same : one.0.1 ≡ rest = ap (λ p. p.1) (Ok_same (list_at line one.0.0, one.0.1) (tree, rest) one.2) in
    omega (arith, some_piece text OpenList e (λ x. cc), l one.0.0 (one.1 ∙ ap (λ r. Ok (one.0.0, r)) same))
by_short line as_list as_map OpenMap text rest tree e l m h =
    let one = first_ok (as_map (behind text)) _ (tree, rest) h in
    let same : one.0.1 ≡ rest = ap (λ p. p.1) (Ok_same (map_at line one.0.0, one.0.1) (tree, rest) one.2) in
    omega (arith, some_piece text OpenMap e (λ x. cc), m one.0.0 (one.1 ∙ ap (λ r. Ok (one.0.0, r)) same))
by_short line as_list as_map CloseList text rest tree e l m h = Err_wrong _ _ h
by_short line as_list as_map CloseMap text rest tree e l m h = Err_wrong _ _ h
by_short line as_list as_map Comma text rest tree e l m h = Err_wrong _ _ h
by_short line as_list as_map (Key w) text rest tree e l m h = Err_wrong _ _ h
by_short line as_list as_map Bad text rest tree e l m h = Err_wrong _ _ h

value_short : (line depth : ℕ) (text rest : Bytes) (tree : Tree) → value line depth text ≡ Ok (tree, rest) → length rest + 1 ≤ length text
unfolding value
value_short line zero text rest tree h =
    by_short line (λ r. refuse line kind.TooDeep) (λ r. refuse line kind.TooDeep) (token text) text rest tree refl (λ all k. Err_wrong (all, rest) _ k) (λ all k. Err_wrong (all, rest) _ k) h
value_short line (suc depth) text rest tree h =
    by_short line (items line (value line depth)) (pairs line (value line depth)) (token text) text rest tree refl
    (λ all k. items_short line (value line depth) (value_short line depth) all (behind text) rest k)
    (λ all k. pairs_short line (value line depth) (value_short line depth) all (behind text) rest k) h

-- ---- a text that is a value as a whole is never refused as none

abbrev Fine : {A : Type 0} → ℕ → Outcome A → Type 0
Fine line o = o ≢ refuse line kind.Flow

-- the kind of a fault, and some other kind where there is none
kind_in : {A : Type 0} → Outcome A → YamlKind
kind_in (Ok a) = kind.Tab
kind_in (Err (Fault f)) = f.kind
kind_in (Err OutOfMemory) = kind.Tab

kind_fine : {A : Type 0} (line : ℕ) (o : Outcome A) → kind_in o ≢ kind.Flow → Fine line o
unfolding kind_in
kind_fine line o other e = other (ap kind_in e)

ok_fine : {A : Type 0} (line : ℕ) (a : A) → Fine line (Ok a)
ok_fine line a e = absurd (cc)

err_same : {A B : Type 0} (x y : YamlError) → ◌≡◌ {A = Outcome B} (Err x) (Err y) → ◌≡◌ {A = Outcome A} (Err x) (Err y)
err_same x y e = let s : x ≡ y = cc in ap Err s

then_fine : {A B : Type 0} (line : ℕ) (o : Outcome A) (g : A → Outcome B) → Fine line o → ((a : A) → o ≡ Ok a → Fine line (g a)) → Fine line (o >>= g)
then_fine line (Ok a) g h k = k a refl
then_fine line (Err x) g h k = λ e. h (err_same x _ e)

unless_fine : {A : Type 0} (line : ℕ) (o : Option YamlKind) (x : Outcome A) → o ≢ Some kind.Flow → Fine line x → Fine line (unless_fault line o x)
unfolding kind_in
unless_fine line None x h k = k
unless_fine line (Some s) x h k = λ e. h (ap Some (ap kind_in e))

scalar_kind : (a b c : Bool) → cond a (cond b (Some kind.Indicator) (cond c (Some kind.BlockScalar) None)) None ≢ Some kind.Flow
scalar_kind true true c e = absurd (cc)
scalar_kind true false true e = absurd (cc)
scalar_kind true false false e = absurd (cc)
scalar_kind false b c e = absurd (cc)

scalar_fault_other : (w : Words) → scalar_fault w ≢ Some kind.Flow
unfolding scalar_fault
scalar_fault_other w = scalar_kind w.plain (is_indicator w.text) (is_block_scalar w.text)

key_kind : (a : Bool) (o : Option YamlKind) → o ≢ Some kind.Flow → cond a (Some kind.Merge) o ≢ Some kind.Flow
key_kind true o h e = absurd (cc)
key_kind false o h e = h e

key_fault_other : (w : Words) → key_fault w ≢ Some kind.Flow
unfolding key_fault
key_fault_other w = key_kind (w.plain && bytes_eq w.text (codes "<<")) (scalar_fault w) (scalar_fault_other w)

scalar_fine : (line : ℕ) (w : Words) → Fine line (scalar line w)
unfolding scalar
scalar_fine line w = unless_fine line (scalar_fault w) (Ok (scalar_at line w.text)) (scalar_fault_other w) (ok_fine line (scalar_at line w.text))

twice_fine : (line : ℕ) (t : Bool) → Fine {A = Unit {0}} line (cond t (refuse line kind.DuplicateKey) (Ok tt))
unfolding kind_in
twice_fine line true e = let s : kind.DuplicateKey ≡ kind.Flow = ap kind_in e in absurd (cc)
twice_fine line false e = absurd (cc)

new_key_fine : (line : ℕ) (seen : List Bytes) (w : Words) → Fine line (new_key line seen w)
unfolding new_key
new_key_fine line seen w = unless_fine line (key_fault w) (cond (has_key w.text seen) (refuse line kind.DuplicateKey) (Ok tt)) (key_fault_other w) (twice_fine line (has_key w.text seen))

key_fine : (line : ℕ) (seen : List Bytes) (t : Token) (w : Words) → t ≡ Key w → Fine line (key line kind.Flow seen t)
key_fine line seen t w e =
    let P : Token → Type 0 = λ u. Fine line (key line kind.Flow seen u) in
    subst P (sym e) (then_fine line (new_key line seen w) (λ _. Ok w) (new_key_fine line seen w) (λ a _. ok_fine line w))

never : {P : Type 0} (b : Bool) → b ≡ true → b ≡ false → P
never b h k = absurd (true≢false (sym h ∙ k))

module _ (line : ℕ) (inner : Parser Tree)
    (reads : (gs : List Goal) (text rest : Bytes) (tree : Tree) → inner text ≡ Ok (tree, rest) → fit (Value ∷ gs) text ≡ fit gs rest)
    (shorter : (text rest : Bytes) (tree : Tree) → inner text ≡ Ok (tree, rest) → length rest + 1 ≤ length text)
    (fine : (gs : List Goal) (text : Bytes) → fit (Value ∷ gs) text ≡ true → Fine line (inner text)) where
  item_fine : (n : ℕ) (found : List Tree) (gs : List Goal) (r1 : Bytes) (t : Token) → token r1 ≡ t → fit (NextItem ∷ gs) r1 ≡ true
      → (fit (Value ∷ NextItem ∷ gs) (behind r1) ≡ true → Fine line (items_from line inner n found (behind r1)))
      → Fine line (behind_item line t (items_from line inner n found (behind r1)) (Ok (found, behind r1)))
  item_fine n found gs r1 Comma e f more = more (sym (fit_at NextItem gs r1 Comma e) ∙ f)
  item_fine n found gs r1 CloseList e f more = ok_fine line (found, behind r1)
  item_fine n found gs r1 OpenList e f more = never _ f (fit_at NextItem gs r1 OpenList e)
  item_fine n found gs r1 OpenMap e f more = never _ f (fit_at NextItem gs r1 OpenMap e)
  item_fine n found gs r1 CloseMap e f more = never _ f (fit_at NextItem gs r1 CloseMap e)
  item_fine n found gs r1 (Key w) e f more = never _ f (fit_at NextItem gs r1 (Key w) e)
  item_fine n found gs r1 (Scalar w) e f more = never _ f (fit_at NextItem gs r1 (Scalar w) e)
  item_fine n found gs r1 Bad e f more = never _ f (fit_at NextItem gs r1 Bad e)

  items_from_fine : (n : ℕ) (found : List Tree) (gs : List Goal) (text : Bytes) → length text ≤ n → fit (Value ∷ NextItem ∷ gs) text ≡ true → Fine line (items_from line inner n found text)
  unfolding items_from
  items_from_fine zero found gs [] h f = never _ f (nothing_fits 0 Value (NextItem ∷ gs))
  items_from_fine zero found gs (b ∷ bs) h f = absurd (omega arith)
  items_from_fine (suc n) found gs text h f =
      then_fine line (inner text) _ (fine (NextItem ∷ gs) text f) (λ x e.
      item_fine n (found ++ x.0 ∷ []) gs x.1 (token x.1) refl (sym (reads (NextItem ∷ gs) text x.1 x.0 e) ∙ f) (λ k.
      items_from_fine n (found ++ x.0 ∷ []) gs (behind x.1) (omega (arith, shorter text x.1 x.0 e, behind_short x.1)) k))

  opened_fine : (t : Token) (gs : List Goal) (text : Bytes) → token text ≡ t → step ItemOrEnd t ≡ and_then (for_value t) NextItem → fit (ItemOrEnd ∷ gs) text ≡ true
      → Fine line (items_from line inner (length text) [] text)
  opened_fine t gs text e same f = items_from_fine (length text) [] gs text (omega arith) (sym (open_items line inner reads t gs text e same) ∙ f)

  items_by_fine : (t : Token) (gs : List Goal) (text : Bytes) → token text ≡ t → fit (ItemOrEnd ∷ gs) text ≡ true → Fine line (items_by line inner t text)
  items_by_fine CloseList gs text e f = ok_fine line ([], behind text)
  items_by_fine OpenList gs text e f = opened_fine OpenList gs text e refl f
  items_by_fine OpenMap gs text e f = opened_fine OpenMap gs text e refl f
  items_by_fine CloseMap gs text e f = opened_fine CloseMap gs text e refl f
  items_by_fine Comma gs text e f = opened_fine Comma gs text e refl f
  items_by_fine (Key w) gs text e f = opened_fine (Key w) gs text e refl f
  items_by_fine (Scalar w) gs text e f = opened_fine (Scalar w) gs text e refl f
  items_by_fine Bad gs text e f = opened_fine Bad gs text e refl f

  items_fine : (gs : List Goal) (text : Bytes) → fit (ItemOrEnd ∷ gs) text ≡ true → Fine line (items line inner text)
  unfolding items
  items_fine gs text f = items_by_fine (token text) gs text refl f

  -- a key comes, and then its value
  abbrev KeyComes : List Goal → Bytes → Type 0
  KeyComes gs text = (w : Words) × (token text ≡ Key w) × (fit (Value ∷ NextPair ∷ gs) (behind text) ≡ true)

  key_comes : (gs : List Goal) (text : Bytes) (t : Token) → token text ≡ t → fit (Pair ∷ gs) text ≡ true → KeyComes gs text
  key_comes gs text (Key w) e f = (w, e, sym (fit_at Pair gs text (Key w) e) ∙ f)
  key_comes gs text Comma e f = never _ f (fit_at Pair gs text Comma e)
  key_comes gs text CloseList e f = never _ f (fit_at Pair gs text CloseList e)
  key_comes gs text OpenList e f = never _ f (fit_at Pair gs text OpenList e)
  key_comes gs text OpenMap e f = never _ f (fit_at Pair gs text OpenMap e)
  key_comes gs text CloseMap e f = never _ f (fit_at Pair gs text CloseMap e)
  key_comes gs text (Scalar w) e f = never _ f (fit_at Pair gs text (Scalar w) e)
  key_comes gs text Bad e f = never _ f (fit_at Pair gs text Bad e)

  pair_fine : (n : ℕ) (seen : List Bytes) (found : List p.Pair) (gs : List Goal) (r1 : Bytes) (t : Token) → token r1 ≡ t → fit (NextPair ∷ gs) r1 ≡ true
      → (fit (Pair ∷ gs) (behind r1) ≡ true → Fine line (pairs_from line inner n seen found (behind r1)))
      → Fine line (behind_pair line t (pairs_from line inner n seen found (behind r1)) (Ok (found, behind r1)))
  pair_fine n seen found gs r1 Comma e f more = more (sym (fit_at NextPair gs r1 Comma e) ∙ f)
  pair_fine n seen found gs r1 CloseMap e f more = ok_fine line (found, behind r1)
  pair_fine n seen found gs r1 OpenList e f more = never _ f (fit_at NextPair gs r1 OpenList e)
  pair_fine n seen found gs r1 CloseList e f more = never _ f (fit_at NextPair gs r1 CloseList e)
  pair_fine n seen found gs r1 OpenMap e f more = never _ f (fit_at NextPair gs r1 OpenMap e)
  pair_fine n seen found gs r1 (Key w) e f more = never _ f (fit_at NextPair gs r1 (Key w) e)
  pair_fine n seen found gs r1 (Scalar w) e f more = never _ f (fit_at NextPair gs r1 (Scalar w) e)
  pair_fine n seen found gs r1 Bad e f more = never _ f (fit_at NextPair gs r1 Bad e)

  pairs_from_fine : (n : ℕ) (seen : List Bytes) (found : List p.Pair) (gs : List Goal) (text : Bytes) → length text ≤ n → KeyComes gs text → Fine line (pairs_from line inner n seen found text)
  unfolding pairs_from
  pairs_from_fine zero seen found gs [] h c = absurd (let e : Bad ≡ Key c.0 = sym no_piece ∙ c.1 in cc)
  pairs_from_fine zero seen found gs (b ∷ bs) h c = absurd (omega arith)
  pairs_from_fine (suc n) seen found gs text h c =
      then_fine line (key line kind.Flow seen (token text)) _ (key_fine line seen (token text) c.0 c.1) (λ k _.
      then_fine line (inner (behind text)) _ (fine (NextPair ∷ gs) (behind text) c.2) (λ x e.
      pair_fine n (seen ++ k.text ∷ []) (found ++ pair_at line k.text x.0 ∷ []) gs x.1 (token x.1) refl (sym (reads (NextPair ∷ gs) (behind text) x.1 x.0 e) ∙ c.2) (λ f.
      pairs_from_fine n (seen ++ k.text ∷ []) (found ++ pair_at line k.text x.0 ∷ []) gs (behind x.1)
      (omega (arith, shorter (behind text) x.1 x.0 e, behind_short x.1, behind_short text)) (key_comes gs (behind x.1) (token (behind x.1)) refl f))))

  pairs_by_fine : (t : Token) (gs : List Goal) (text : Bytes) → token text ≡ t → fit (PairOrEnd ∷ gs) text ≡ true → Fine line (pairs_by line inner t text)
  pairs_by_fine CloseMap gs text e f = ok_fine line ([], behind text)
  pairs_by_fine (Key w) gs text e f = pairs_from_fine (length text) [] [] gs text (omega arith) (w, e, sym (fit_at PairOrEnd gs text (Key w) e) ∙ f)
  pairs_by_fine OpenList gs text e f = never _ f (fit_at PairOrEnd gs text OpenList e)
  pairs_by_fine CloseList gs text e f = never _ f (fit_at PairOrEnd gs text CloseList e)
  pairs_by_fine OpenMap gs text e f = never _ f (fit_at PairOrEnd gs text OpenMap e)
  pairs_by_fine Comma gs text e f = never _ f (fit_at PairOrEnd gs text Comma e)
  pairs_by_fine (Scalar w) gs text e f = never _ f (fit_at PairOrEnd gs text (Scalar w) e)
  pairs_by_fine Bad gs text e f = never _ f (fit_at PairOrEnd gs text Bad e)

  pairs_fine : (gs : List Goal) (text : Bytes) → fit (PairOrEnd ∷ gs) text ≡ true → Fine line (pairs line inner text)
  unfolding pairs
  pairs_fine gs text f = pairs_by_fine (token text) gs text refl f

by_fine : (line : ℕ) (as_list : Parser (List Tree)) (as_map : Parser (List p.Pair)) (t : Token) (gs : List Goal) (text : Bytes) → token text ≡ t
    → (fit (ItemOrEnd ∷ gs) (behind text) ≡ true → Fine line (as_list (behind text)))
    → (fit (PairOrEnd ∷ gs) (behind text) ≡ true → Fine line (as_map (behind text)))
    → fit (Value ∷ gs) text ≡ true → Fine line (value_by line as_list as_map t (behind text))
by_fine line as_list as_map (Scalar w) gs text e l m f = then_fine line (scalar line w) _ (scalar_fine line w) (λ t _. ok_fine line (t, behind text))
by_fine line as_list as_map OpenList gs text e l m f =
    then_fine line (as_list (behind text)) _ (l (sym (fit_at Value gs text OpenList e) ∙ f)) (λ q _. ok_fine line (list_at line q.0, q.1))
by_fine line as_list as_map OpenMap gs text e l m f =
    then_fine line (as_map (behind text)) _ (m (sym (fit_at Value gs text OpenMap e) ∙ f)) (λ q _. ok_fine line (map_at line q.0, q.1))
by_fine line as_list as_map CloseList gs text e l m f = never _ f (fit_at Value gs text CloseList e)
by_fine line as_list as_map CloseMap gs text e l m f = never _ f (fit_at Value gs text CloseMap e)
by_fine line as_list as_map Comma gs text e l m f = never _ f (fit_at Value gs text Comma e)
by_fine line as_list as_map (Key w) gs text e l m f = never _ f (fit_at Value gs text (Key w) e)
by_fine line as_list as_map Bad gs text e l m f = never _ f (fit_at Value gs text Bad e)

deep_fine : {A : Type 0} (line : ℕ) → Fine {A = A} line (refuse line kind.TooDeep)
unfolding kind_in
deep_fine line e = let s : kind.TooDeep ≡ kind.Flow = ap kind_in e in absurd (cc)

value_fine : (line depth : ℕ) (gs : List Goal) (text : Bytes) → fit (Value ∷ gs) text ≡ true → Fine line (value line depth text)
unfolding value
value_fine line zero gs text f =
    by_fine line (λ r. refuse line kind.TooDeep) (λ r. refuse line kind.TooDeep) (token text) gs text refl (λ _. deep_fine line) (λ _. deep_fine line) f
value_fine line (suc depth) gs text f =
    by_fine line (items line (value line depth)) (pairs line (value line depth)) (token text) gs text refl
    (λ k. items_fine line (value line depth) (value_fit line depth) (value_short line depth) (value_fine line depth) gs (behind text) k)
    (λ k. pairs_fine line (value line depth) (value_fit line depth) (value_short line depth) (value_fine line depth) gs (behind text) k) f

pub flow_never_refused : (line depth : ℕ) (text : Bytes) → is_flow text ≡ true → value line depth text ≢ refuse line kind.Flow
unfolding is_flow
flow_never_refused line depth text f = value_fine line depth [] text f
