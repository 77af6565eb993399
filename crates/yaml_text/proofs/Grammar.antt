-- What is read as a value with nothing behind it is a value as a whole.
use Rattle.std.proofs.Common.{◌≡◌, ℕ, suc, zero, ◌+◌, ◌≤◌, Bool, true, false, cond, eqb, List, [], ◌∷◌, ◌++◌, length, take, drop, Option, Some, None, Result, Ok, Err, refl, ap, sym, ◌∙◌, arith}
use Rattle.std.proofs.lemmas.Bool.{true≢false}
use Rattle.std.proofs.lemmas.List.{length-drop, append_assoc}
use Rattle.yaml_text.specs.declared.fault.YamlKind.TheVariants as kind
use Rattle.yaml_text.specs.declared.flow.Goal.{Goal}
use Rattle.yaml_text.specs.declared.flow.Goal.TheVariants.{Value, ItemOrEnd, NextItem, PairOrEnd, Pair, NextPair}
use Rattle.yaml_text.specs.declared.token.Token.{Token}
use Rattle.yaml_text.specs.declared.token.Token.TheVariants.{OpenList, CloseList, OpenMap, CloseMap, Comma, Key, Scalar, Bad}
use Rattle.yaml_text.specs.declared.tree.Tree.{Tree}
use Rattle.yaml_text.specs.declared.tree.Pair as p
use Rattle.yaml_text.specs.Outcomes.{Outcome, refuse, ◌>>=◌}
use Rattle.yaml_text.specs.Lines.{Bytes, is_empty, skip, begins, spaces, trim_end}
use Rattle.yaml_text.specs.Words.{Words, is_colon, plain_length, quoted_length, is_whole}
use Rattle.yaml_text.specs.Tokens.{named, plain, quoted, piece, token, behind}
use Rattle.yaml_text.specs.Flow.{for_value, and_then, step, if_some, fits, is_flow, Parser, behind_item, behind_pair, items_from, items_by, items, key, pair_at, pairs_from, pairs_by, pairs, value_by, value, scalar, list_at, map_at}

-- ---- each piece has a byte

skip_short : (bs : Bytes) → length (skip bs) ≤ length bs
skip_short bs = omega (arith, length-drop (spaces bs) bs)

drop_short : (n : ℕ) (bs : Bytes) → length (drop n bs) ≤ length bs
drop_short n bs = omega (arith, length-drop n bs)

cond_short : (t : Bool) (x y : Token × Bytes) (n : ℕ) → length x.1 ≤ n → length y.1 ≤ n → length (cond t x y).1 ≤ n
cond_short true x y n h k = h
cond_short false x y n h k = k

named_short : (w : Words) (after : Bytes) (n : ℕ) → length after ≤ n → length (named w after).1 ≤ n
named_short w after n h =
    cond_short (is_colon after) _ _ n (omega (arith, skip_short (drop 1 after), drop_short 1 after)) (omega (arith, skip_short after))

quoted_short : (bs : Bytes) → length (quoted bs).1 ≤ length bs
quoted_short bs =
    cond_short (begins 34 (drop (quoted_length bs) bs)) _ _ (length bs)
    (named_short _ (skip (drop (quoted_length bs + 1) bs)) (length bs) (omega (arith, skip_short (drop (quoted_length bs + 1) bs), drop_short (quoted_length bs + 1) bs)))
    (omega arith)

-- words with a byte have a byte of the text
whole_some : (n : ℕ) (text : Bytes) → is_whole (trim_end (take n text)) ≡ true → 1 ≤ n
unfolding trim_end
whole_some zero text h = absurd (true≢false (sym h))
whole_some (suc n) text h = omega arith

plain_cases : (t : Bool) (w : Words) (n : ℕ) (b : ℕ) (bs : Bytes) → (t ≡ true → 1 ≤ n) → length (cond t (named w (drop n (b ∷ bs))) (Bad, [])).1 ≤ length bs
plain_cases true w n b bs some = named_short w (drop n (b ∷ bs)) (length bs) (omega (arith, length-drop n (b ∷ bs), some refl))
plain_cases false w n b bs some = omega arith

plain_short : (b : ℕ) (bs : Bytes) → length (plain (b ∷ bs)).1 ≤ length bs
plain_short b bs =
    plain_cases (is_whole (trim_end (take (plain_length (b ∷ bs)) (b ∷ bs)))) _ (plain_length (b ∷ bs)) b bs (whole_some (plain_length (b ∷ bs)) (b ∷ bs))

pub piece_short : (b : ℕ) (bs : Bytes) → length (behind (b ∷ bs)) ≤ length bs
unfolding piece
piece_short b bs =
    let r5 : Token × Bytes = cond (eqb b 44) (Comma, skip bs) (plain (b ∷ bs)) in
    let r4 : Token × Bytes = cond (eqb b 125) (CloseMap, skip bs) r5 in
    let r3 : Token × Bytes = cond (eqb b 123) (OpenMap, skip bs) r4 in
    let r2 : Token × Bytes = cond (eqb b 93) (CloseList, skip bs) r3 in
    let r1 : Token × Bytes = cond (eqb b 91) (OpenList, skip bs) r2 in
    let n = length bs in
    let h = skip_short bs in
    cond_short (eqb b 34) (quoted bs) r1 n (quoted_short bs)
    (cond_short (eqb b 91) (OpenList, skip bs) r2 n h
    (cond_short (eqb b 93) (CloseList, skip bs) r3 n h
    (cond_short (eqb b 123) (OpenMap, skip bs) r4 n h
    (cond_short (eqb b 125) (CloseMap, skip bs) r5 n h
    (cond_short (eqb b 44) (Comma, skip bs) (plain (b ∷ bs)) n h (plain_short b bs))))))

pub no_piece : token [] ≡ Bad
unfolding piece
no_piece = refl

-- ---- the bound on the pieces is never met

step_bad : (goal : Goal) → step goal Bad ≡ None
step_bad Value = refl
step_bad ItemOrEnd = refl
step_bad NextItem = refl
step_bad PairOrEnd = refl
step_bad Pair = refl
step_bad NextPair = refl

if_same : (o : Option (List Goal)) (f h : List Goal → Bool) → ((gs : List Goal) → f gs ≡ h gs) → if_some o f ≡ if_some o h
if_same None f h same = refl
if_same (Some gs) f h same = same gs

pub nothing_fits : (n : ℕ) (goal : Goal) (gs : List Goal) → fits n (goal ∷ gs) [] ≡ false
unfolding fits
nothing_fits zero goal gs = refl
nothing_fits (suc n) goal gs = rw (no_piece, step_bad goal) refl

fits_enough : (n m : ℕ) (gs : List Goal) (text : Bytes) → length text ≤ n → length text ≤ m → fits n gs text ≡ fits m gs text
unfolding fits
fits_enough zero zero [] text h k = refl
fits_enough zero (suc m) [] text h k = refl
fits_enough (suc n) zero [] text h k = refl
fits_enough (suc n) (suc m) [] text h k = refl
fits_enough n m (g ∷ gs) [] h k = nothing_fits n g gs ∙ sym (nothing_fits m g gs)
fits_enough zero m (g ∷ gs) (b ∷ bs) h k = absurd (omega arith)
fits_enough (suc n) zero (g ∷ gs) (b ∷ bs) h k = absurd (omega arith)
fits_enough (suc n) (suc m) (g ∷ gs) (b ∷ bs) h k =
    if_same (step g (token (b ∷ bs))) _ _ (λ more. fits_enough n m (more ++ gs) (behind (b ∷ bs)) (omega (arith, piece_short b bs)) (omega (arith, piece_short b bs)))

-- with as many pieces as the text may have
abbrev pub fit : List Goal → Bytes → Bool
fit gs text = fits (length text) gs text

fit_step : (g : Goal) (gs : List Goal) (text : Bytes) → fit (g ∷ gs) text ≡ if_some (step g (token text)) (λ more. fit (more ++ gs) (behind text))
unfolding fits
fit_step g gs [] = rw (no_piece, step_bad g) refl
fit_step g gs (b ∷ bs) =
    if_same (step g (token (b ∷ bs))) _ _ (λ more. fits_enough (length bs) (length (behind (b ∷ bs))) (more ++ gs) (behind (b ∷ bs)) (piece_short b bs) (omega arith))

pub fit_at : (g : Goal) (gs : List Goal) (text : Bytes) (t : Token) → token text ≡ t → fit (g ∷ gs) text ≡ if_some (step g t) (λ more. fit (more ++ gs) (behind text))
fit_at g gs text t e = fit_step g gs text ∙ ap (λ u. if_some (step g u) (λ more. fit (more ++ gs) (behind text))) e

-- ---- what is read

pub Ok_same : {A : Type 0} {E : Type 0} (x y : A) → ◌≡◌ {A = Result A E} (Ok x) (Ok y) → x ≡ y
Ok_same x y e = cc

pub Err_wrong : {A : Type 0} {E : Type 0} {P : Type 0} (x : A) (y : E) → ◌≡◌ {A = Result A E} (Err y) (Ok x) → P
Err_wrong x y e = absurd (cc)

-- where a step and the next one give a value, the first gives one, from which the next goes on
pub first_ok : {A B : Type 0} (o : Outcome A) (f : A → Outcome B) (v : B) → (o >>= f) ≡ Ok v → (a : A) × (o ≡ Ok a) × (f a ≡ Ok v)
first_ok (Ok a) f v e = (a, refl, e)
first_ok (Err x) f v e = Err_wrong v x e

-- a goal for an item is a goal for a value, with one for what follows
item_goal : (o : Option (List Goal)) (gs : List Goal) (test : List Goal → Bool)
    → if_some (and_then o NextItem) (λ more. test (more ++ gs)) ≡ if_some o (λ more. test (more ++ NextItem ∷ gs))
item_goal None gs test = refl
item_goal (Some more) gs test = ap test (append_assoc more (NextItem ∷ []) gs)

module _ (line : ℕ) (inner : Parser Tree)
    (reads : (gs : List Goal) (text rest : Bytes) (tree : Tree) → inner text ≡ Ok (tree, rest) → fit (Value ∷ gs) text ≡ fit gs rest) where
  after_item : (n : ℕ) (found all : List Tree) (gs : List Goal) (r1 rest : Bytes) (t : Token) → token r1 ≡ t
      → ((fin : List Tree) → items_from line inner n found (behind r1) ≡ Ok (fin, rest) → fit (Value ∷ NextItem ∷ gs) (behind r1) ≡ fit gs rest)
      → behind_item line t (items_from line inner n found (behind r1)) (Ok (found, behind r1)) ≡ Ok (all, rest) → fit (NextItem ∷ gs) r1 ≡ fit gs rest
  after_item n found all gs r1 rest Comma e more h = fit_at NextItem gs r1 Comma e ∙ more all h
  after_item n found all gs r1 rest CloseList e more h =
      let same : behind r1 ≡ rest = ap (λ p. p.1) (Ok_same (found, behind r1) (all, rest) h) in
      fit_at NextItem gs r1 CloseList e ∙ ap (fit gs) same
  after_item n found all gs r1 rest OpenList e more h = Err_wrong _ _ h
  after_item n found all gs r1 rest OpenMap e more h = Err_wrong _ _ h
  after_item n found all gs r1 rest CloseMap e more h = Err_wrong _ _ h
  after_item n found all gs r1 rest (Key w) e more h = Err_wrong _ _ h
  after_item n found all gs r1 rest (Scalar w) e more h = Err_wrong _ _ h
  after_item n found all gs r1 rest Bad e more h = Err_wrong _ _ h

  items_from_fit : (n : ℕ) (found all : List Tree) (gs : List Goal) (text rest : Bytes) → items_from line inner n found text ≡ Ok (all, rest)
      → fit (Value ∷ NextItem ∷ gs) text ≡ fit gs rest
  unfolding items_from
  items_from_fit zero found all gs text rest h = Err_wrong _ _ h
  items_from_fit (suc n) found all gs text rest h =
      let one = first_ok (inner text) _ (all, rest) h in
      reads (NextItem ∷ gs) text one.0.1 one.0.0 one.1
      ∙ after_item n (found ++ one.0.0 ∷ []) all gs one.0.1 rest (token one.0.1) refl
      (λ fin k. items_from_fit n (found ++ one.0.0 ∷ []) fin gs (behind one.0.1) rest k) one.2

  pub open_items : (t : Token) (gs : List Goal) (text : Bytes) → token text ≡ t → step ItemOrEnd t ≡ and_then (for_value t) NextItem
      → fit (ItemOrEnd ∷ gs) text ≡ fit (Value ∷ NextItem ∷ gs) text
  open_items t gs text e same =
      fit_at ItemOrEnd gs text t e ∙ ap (λ o. if_some o (λ more. fit (more ++ gs) (behind text))) same
      ∙ item_goal (for_value t) gs (λ more. fit more (behind text)) ∙ sym (fit_at Value (NextItem ∷ gs) text t e)

  items_by_fit : (t : Token) (all : List Tree) (gs : List Goal) (text rest : Bytes) → token text ≡ t → items_by line inner t text ≡ Ok (all, rest)
      → fit (ItemOrEnd ∷ gs) text ≡ fit gs rest
  items_by_fit CloseList all gs text rest e h =
      let same : behind text ≡ rest = ap (λ p. p.1) (Ok_same ([], behind text) (all, rest) h) in
      fit_at ItemOrEnd gs text CloseList e ∙ ap (fit gs) same
  items_by_fit OpenList all gs text rest e h = open_items OpenList gs text e refl ∙ items_from_fit _ [] all gs text rest h
  items_by_fit OpenMap all gs text rest e h = open_items OpenMap gs text e refl ∙ items_from_fit _ [] all gs text rest h
  items_by_fit CloseMap all gs text rest e h = open_items CloseMap gs text e refl ∙ items_from_fit _ [] all gs text rest h
  items_by_fit Comma all gs text rest e h = open_items Comma gs text e refl ∙ items_from_fit _ [] all gs text rest h
  items_by_fit (Key w) all gs text rest e h = open_items (Key w) gs text e refl ∙ items_from_fit _ [] all gs text rest h
  items_by_fit (Scalar w) all gs text rest e h = open_items (Scalar w) gs text e refl ∙ items_from_fit _ [] all gs text rest h
  items_by_fit Bad all gs text rest e h = open_items Bad gs text e refl ∙ items_from_fit _ [] all gs text rest h

  items_fit : (all : List Tree) (gs : List Goal) (text rest : Bytes) → items line inner text ≡ Ok (all, rest) → fit (ItemOrEnd ∷ gs) text ≡ fit gs rest
  unfolding items
  items_fit all gs text rest h = items_by_fit (token text) all gs text rest refl h

  after_pair : (n : ℕ) (seen : List Bytes) (found all : List p.Pair) (gs : List Goal) (r1 rest : Bytes) (t : Token) → token r1 ≡ t
      → ((fin : List p.Pair) → pairs_from line inner n seen found (behind r1) ≡ Ok (fin, rest) → fit (Pair ∷ gs) (behind r1) ≡ fit gs rest)
      → behind_pair line t (pairs_from line inner n seen found (behind r1)) (Ok (found, behind r1)) ≡ Ok (all, rest) → fit (NextPair ∷ gs) r1 ≡ fit gs rest
  after_pair n seen found all gs r1 rest Comma e more h = fit_at NextPair gs r1 Comma e ∙ more all h
  after_pair n seen found all gs r1 rest CloseMap e more h =
      let same : behind r1 ≡ rest = ap (λ p. p.1) (Ok_same (found, behind r1) (all, rest) h) in
      fit_at NextPair gs r1 CloseMap e ∙ ap (fit gs) same
  after_pair n seen found all gs r1 rest OpenList e more h = Err_wrong _ _ h
  after_pair n seen found all gs r1 rest CloseList e more h = Err_wrong _ _ h
  after_pair n seen found all gs r1 rest OpenMap e more h = Err_wrong _ _ h
  after_pair n seen found all gs r1 rest (Key w) e more h = Err_wrong _ _ h
  after_pair n seen found all gs r1 rest (Scalar w) e more h = Err_wrong _ _ h
  after_pair n seen found all gs r1 rest Bad e more h = Err_wrong _ _ h

  -- a key that is read is one
  key_there : (seen : List Bytes) (t : Token) (k : Words) → key line kind.Flow seen t ≡ Ok k → (w : Words) × (t ≡ Key w)
  key_there seen (Key w) k h = (w, refl)
  key_there seen OpenList k h = Err_wrong _ _ h
  key_there seen CloseList k h = Err_wrong _ _ h
  key_there seen OpenMap k h = Err_wrong _ _ h
  key_there seen CloseMap k h = Err_wrong _ _ h
  key_there seen Comma k h = Err_wrong _ _ h
  key_there seen (Scalar w) k h = Err_wrong _ _ h
  key_there seen Bad k h = Err_wrong _ _ h

  pairs_from_fit : (n : ℕ) (seen : List Bytes) (found all : List p.Pair) (gs : List Goal) (text rest : Bytes) → pairs_from line inner n seen found text ≡ Ok (all, rest)
      → (fit (Pair ∷ gs) text ≡ fit gs rest) × (fit (PairOrEnd ∷ gs) text ≡ fit gs rest)
  unfolding pairs_from
  pairs_from_fit zero seen found all gs text rest h = Err_wrong _ _ h
  pairs_from_fit (suc n) seen found all gs text rest h =
      let named = first_ok (key line kind.Flow seen (token text)) _ (all, rest) h in
      let one = first_ok (inner (behind text)) _ (all, rest) named.2 in
      let word = key_there seen (token text) named.0 named.1 in
      let goes : fit (Value ∷ NextPair ∷ gs) (behind text) ≡ fit gs rest =
      reads (NextPair ∷ gs) (behind text) one.0.1 one.0.0 one.1
      ∙ after_pair n (seen ++ named.0.text ∷ []) (found ++ pair_at line named.0.text one.0.0 ∷ []) all gs one.0.1 rest (token one.0.1) refl
      (λ fin k. (pairs_from_fit n (seen ++ named.0.text ∷ []) (found ++ pair_at line named.0.text one.0.0 ∷ []) fin gs (behind one.0.1) rest k).0) one.2 in
      (fit_at Pair gs text (Key word.0) word.1 ∙ goes, fit_at PairOrEnd gs text (Key word.0) word.1 ∙ goes)

  pairs_by_fit : (t : Token) (all : List p.Pair) (gs : List Goal) (text rest : Bytes) → token text ≡ t → pairs_by line inner t text ≡ Ok (all, rest)
      → fit (PairOrEnd ∷ gs) text ≡ fit gs rest
  pairs_by_fit CloseMap all gs text rest e h =
      let same : behind text ≡ rest = ap (λ p. p.1) (Ok_same ([], behind text) (all, rest) h) in
      fit_at PairOrEnd gs text CloseMap e ∙ ap (fit gs) same
  pairs_by_fit OpenList all gs text rest e h = (pairs_from_fit _ [] [] all gs text rest h).1
  pairs_by_fit CloseList all gs text rest e h = (pairs_from_fit _ [] [] all gs text rest h).1
  pairs_by_fit OpenMap all gs text rest e h = (pairs_from_fit _ [] [] all gs text rest h).1
  pairs_by_fit Comma all gs text rest e h = (pairs_from_fit _ [] [] all gs text rest h).1
  pairs_by_fit (Key w) all gs text rest e h = (pairs_from_fit _ [] [] all gs text rest h).1
  pairs_by_fit (Scalar w) all gs text rest e h = (pairs_from_fit _ [] [] all gs text rest h).1
  pairs_by_fit Bad all gs text rest e h = (pairs_from_fit _ [] [] all gs text rest h).1

  pairs_fit : (all : List p.Pair) (gs : List Goal) (text rest : Bytes) → pairs line inner text ≡ Ok (all, rest) → fit (PairOrEnd ∷ gs) text ≡ fit gs rest
  unfolding pairs
  pairs_fit all gs text rest h = pairs_by_fit (token text) all gs text rest refl h

by_fit : (line : ℕ) (as_list : Parser (List Tree)) (as_map : Parser (List p.Pair)) (t : Token) (gs : List Goal) (text rest : Bytes) (tree : Tree) → token text ≡ t
    → ((all : List Tree) → as_list (behind text) ≡ Ok (all, rest) → fit (ItemOrEnd ∷ gs) (behind text) ≡ fit gs rest)
    → ((all : List p.Pair) → as_map (behind text) ≡ Ok (all, rest) → fit (PairOrEnd ∷ gs) (behind text) ≡ fit gs rest)
    → value_by line as_list as_map t (behind text) ≡ Ok (tree, rest) → fit (Value ∷ gs) text ≡ fit gs rest
by_fit line as_list as_map (Scalar w) gs text rest tree e l m h =
    let one = first_ok (scalar line w) _ (tree, rest) h in
    let same : behind text ≡ rest = ap (λ p. p.1) (Ok_same (one.0, behind text) (tree, rest) one.2) in
    fit_at Value gs text (Scalar w) e ∙ ap (fit gs) same
by_fit line as_list as_map OpenList gs text rest tree e l m h =
    let one = first_ok (as_list (behind text)) _ (tree, rest) h in
    let same : one.0.1 ≡ rest = ap (λ p. p.1) (Ok_same (list_at line one.0.0, one.0.1) (tree, rest) one.2) in
    fit_at Value gs text OpenList e ∙ l one.0.0 (one.1 ∙ ap (λ r. Ok (one.0.0, r)) same)
by_fit line as_list as_map OpenMap gs text rest tree e l m h =
    let one = first_ok (as_map (behind text)) _ (tree, rest) h in
    let same : one.0.1 ≡ rest = ap (λ p. p.1) (Ok_same (map_at line one.0.0, one.0.1) (tree, rest) one.2) in
    fit_at Value gs text OpenMap e ∙ m one.0.0 (one.1 ∙ ap (λ r. Ok (one.0.0, r)) same)
by_fit line as_list as_map CloseList gs text rest tree e l m h = Err_wrong _ _ h
by_fit line as_list as_map CloseMap gs text rest tree e l m h = Err_wrong _ _ h
by_fit line as_list as_map Comma gs text rest tree e l m h = Err_wrong _ _ h
by_fit line as_list as_map (Key w) gs text rest tree e l m h = Err_wrong _ _ h
by_fit line as_list as_map Bad gs text rest tree e l m h = Err_wrong _ _ h

pub value_fit : (line depth : ℕ) (gs : List Goal) (text rest : Bytes) (tree : Tree) → value line depth text ≡ Ok (tree, rest) → fit (Value ∷ gs) text ≡ fit gs rest
unfolding value
value_fit line zero gs text rest tree h =
    by_fit line (λ r. refuse line kind.TooDeep) (λ r. refuse line kind.TooDeep) (token text) gs text rest tree refl (λ all k. Err_wrong (all, rest) _ k) (λ all k. Err_wrong (all, rest) _ k) h
value_fit line (suc depth) gs text rest tree h =
    by_fit line (items line (value line depth)) (pairs line (value line depth)) (token text) gs text rest tree refl
    (λ all k. items_fit line (value line depth) (value_fit line depth) all gs (behind text) rest k)
    (λ all k. pairs_fit line (value line depth) (value_fit line depth) all gs (behind text) rest k) h

fits_nothing : (n : ℕ) (text : Bytes) → fits n [] text ≡ is_empty text
unfolding fits
fits_nothing zero text = refl
fits_nothing (suc n) text = refl

-- What is read as a value from the front of a text is a value as a whole exactly where nothing is left.
pub read_is_flow : (line depth : ℕ) (text rest : Bytes) (tree : Tree) → value line depth text ≡ Ok (tree, rest) → is_flow text ≡ is_empty rest
unfolding is_flow
read_is_flow line depth text rest tree h = value_fit line depth [] text rest tree h ∙ fits_nothing (length rest) rest
