-- One piece more, at the definition of a text that is a value.
use Rattle.std.proofs.Common.{◌≡◌, ◌≢◌, ℕ, suc, zero, ◌+◌, Bool, true, false, List, [], ◌∷◌, ◌++◌, length, reverse, Option, Some, None, Ok, Err, ◌||◌, cond, refl, ap, sym, ◌∙◌, arith}
use Rattle.std.proofs.lemmas.Bool.{true≢false}
use Rattle.std.proofs.lemmas.List.{reverse-append, reverse-reverse}
use Rattle.yaml_text.specs.declared.flow.Goal.{Goal}
use Rattle.yaml_text.specs.declared.flow.Goal.TheVariants.{Value}
use Rattle.yaml_text.specs.Lines.{Bytes, is_empty}
use Rattle.yaml_text.specs.Tokens.{token, behind, key_fault}
use Rattle.yaml_text.specs.Flow.{step, if_some, fits, is_flow, Meets, behind_item, behind_pair, Parser, items_from, items_by, items, pairs_from, pairs_by, pairs, key, new_key, unless_fault, pair_at, as_pair, value_by, value}
use Rattle.std.specs.List.{list_any}
use Rattle.std.specs.Str.{bytes_eq}
use Rattle.std.proofs.lemmas.List.Folds.{list_any-append}
use Rattle.yaml_text.specs.SameKeys.{SameKeys}
use Rattle.yaml_text.specs.Words.{Words}
use Rattle.yaml_text.specs.declared.tree.Pair.{Pair}
use Rattle.yaml_text.specs.declared.fault.YamlKind.{YamlKind}
use Rattle.yaml_text.specs.declared.tree.Tree.{Tree}
use Rattle.yaml_text.specs.Outcomes.{Outcome, refuse, ◌>>=◌}
use Rattle.yaml_text.specs.declared.fault.YamlKind.TheVariants.{Flow, DuplicateKey, TooDeep}
use Rattle.yaml_text.specs.declared.token.Token.{Token}
use Rattle.yaml_text.specs.declared.token.Token.TheVariants.{OpenList, CloseList, OpenMap, CloseMap, Comma, Key, Scalar, Bad}

fits_nil : (n : ℕ) (text : Bytes) → fits n [] text ≡ is_empty text
unfolding fits
fits_nil zero text = refl
fits_nil (suc n) text = refl

fits_cons : (n : ℕ) (goal : Goal) (goals : List Goal) (text : Bytes)
    → fits (suc n) (goal ∷ goals) text ≡ if_some (step goal (token text)) (λ more. fits n (more ++ goals) (behind text))
unfolding fits
fits_cons n goal goals text = refl

pub flow_begins : (text : Bytes) (goals : List Goal) (rest : Bytes) (n : ℕ) → goals ≡ [] ++ Value ∷ [] → rest ≡ text → n ≡ length text → is_flow text ≡ fits n (reverse goals) rest
unfolding is_flow
flow_begins text goals rest n one same all = rw (one, same, all) refl

pub flow_done : {whole : Bool} (n : ℕ) (goals : List Goal) (text : Bytes) → goals ≡ [] → whole ≡ fits n (reverse goals) text → whole ≡ is_empty text
flow_done n goals text none so_far = so_far ∙ ap (λ gs. fits n (reverse gs) text) none ∙ fits_nil n text

top_first : (goals rest : List Goal) (goal : Goal) → goals ≡ rest ++ goal ∷ [] → reverse goals ≡ goal ∷ reverse rest
top_first goals rest goal top = ap reverse top ∙ reverse-append rest (goal ∷ [])

fits_top : {whole : Bool} (n m : ℕ) (goals rest : List Goal) (goal : Goal) (text : Bytes) → n ≡ suc m → goals ≡ rest ++ goal ∷ []
    → whole ≡ fits n (reverse goals) text → whole ≡ if_some (step goal (token text)) (λ more. fits m (more ++ reverse rest) (behind text))
fits_top n m goals rest goal text turn top so_far =
    so_far ∙ ap (λ k. fits k (reverse goals) text) turn ∙ ap (λ gs. fits (suc m) gs text) (top_first goals rest goal top) ∙ fits_cons m goal (reverse rest) text

none_met : (o : Option (List Goal)) (old new : List Goal) (test : List Goal → Bool) (met : Bool) → Meets o old (Ok met) new → met ≡ false → if_some o test ≡ false
none_met None old new test met h e = refl
none_met (Some more) old new test met h e = absurd (true≢false (sym h.0 ∙ e))

some_met : (o : Option (List Goal)) (old new : List Goal) (test : List Goal → Bool) (met : Bool) → Meets o old (Ok met) new → met ≡ true
    → (more : List Goal) × (if_some o test ≡ test more) × (new ≡ old ++ reverse more)
some_met None old new test met h e = absurd (true≢false (sym e ∙ h))
some_met (Some more) old new test met h e = (more, refl, h.1)

pub flow_wrong : {whole : Bool} (n m : ℕ) (goals rest new : List Goal) (goal : Goal) (text : Bytes) (met : Bool) → n ≡ suc m → goals ≡ rest ++ goal ∷ []
    → whole ≡ fits n (reverse goals) text → Meets (step goal (token text)) rest (Ok met) new → met ≡ false → whole ≡ false
flow_wrong n m goals rest new goal text met turn top so_far h e =
    fits_top n m goals rest goal text turn top so_far ∙ none_met (step goal (token text)) rest new _ met h e

pub flow_more : {whole : Bool} (n m : ℕ) (goals rest new : List Goal) (goal : Goal) (text : Bytes) (met : Bool) → n ≡ suc m → goals ≡ rest ++ goal ∷ []
    → whole ≡ fits n (reverse goals) text → Meets (step goal (token text)) rest (Ok met) new → met ≡ true → whole ≡ fits m (reverse new) (behind text)
flow_more n m goals rest new goal text met turn top so_far h e =
    let some = some_met (step goal (token text)) rest new (λ more. fits m (more ++ reverse rest) (behind text)) met h e in
    let back : reverse new ≡ some.0 ++ reverse rest =
    ap reverse some.2 ∙ reverse-append rest (reverse some.0) ∙ ap (λ gs. gs ++ reverse rest) (reverse-reverse some.0) in
    fits_top n m goals rest goal text turn top so_far ∙ some.1 ∙ sym (ap (λ gs. fits m gs (behind text)) back)

none_left : (goals : List Goal) (text : Bytes) → goals ≢ [] → fits 0 goals text ≡ false
unfolding fits
none_left [] text some = absurd (some refl)
none_left (goal ∷ goals) text some = refl

-- no turn is left, and something had to come
pub flow_stops : {whole : Bool} (n : ℕ) (goals : List Goal) (text : Bytes) → n ≡ 0 → goals ≢ [] → whole ≡ fits n (reverse goals) text → whole ≡ false
flow_stops n goals text turn some so_far =
    so_far ∙ ap (λ k. fits k (reverse goals) text) turn ∙ none_left (reverse goals) text (λ e. some (sym (reverse-reverse goals) ∙ ap reverse e))

-- a piece that ends no item
pub item_wrong : {A : Type 0} (line : ℕ) (t : Token) (more all : Outcome A) → t ≢ Comma → t ≢ CloseList → behind_item line t more all ≡ refuse line Flow
item_wrong line OpenList more all a b = refl
item_wrong line CloseList more all a b = absurd (b refl)
item_wrong line OpenMap more all a b = refl
item_wrong line CloseMap more all a b = refl
item_wrong line Comma more all a b = absurd (a refl)
item_wrong line (Key words) more all a b = refl
item_wrong line (Scalar words) more all a b = refl
item_wrong line Bad more all a b = refl

pub pair_wrong : {A : Type 0} (line : ℕ) (t : Token) (more all : Outcome A) → t ≢ Comma → t ≢ CloseMap → behind_pair line t more all ≡ refuse line Flow
pair_wrong line OpenList more all a b = refl
pair_wrong line CloseList more all a b = refl
pair_wrong line OpenMap more all a b = refl
pair_wrong line CloseMap more all a b = absurd (b refl)
pair_wrong line Comma more all a b = absurd (a refl)
pair_wrong line (Key words) more all a b = refl
pair_wrong line (Scalar words) more all a b = refl
pair_wrong line Bad more all a b = refl

pub item_spoilt : {whole : Outcome (List Tree × Bytes)} (line : ℕ) (inner : Parser Tree) (n : ℕ) (found : List Tree) (text rest : Bytes) (x : Tree) (t : Token)
    → whole ≡ items_from line inner (suc n) found text → inner text ≡ Ok (x, rest) → t ≡ token rest → t ≢ Comma → t ≢ CloseList → whole ≡ refuse line Flow
unfolding items_from
item_spoilt line inner n found text rest x t so_far one is a b =
    so_far ∙ rw one (item_wrong line (token rest) _ _ (λ e. a (is ∙ e)) (λ e. b (is ∙ e)))

items_other : (line : ℕ) (inner : Parser Tree) (t : Token) (text : Bytes) → t ≢ CloseList → items_by line inner t text ≡ items_from line inner (length text) [] text
items_other line inner OpenList text b = refl
items_other line inner CloseList text b = absurd (b refl)
items_other line inner OpenMap text b = refl
items_other line inner CloseMap text b = refl
items_other line inner Comma text b = refl
items_other line inner (Key words) text b = refl
items_other line inner (Scalar words) text b = refl
items_other line inner Bad text b = refl

pub items_open : (line : ℕ) (inner : Parser Tree) (t : Token) (text : Bytes) → t ≡ token text → t ≢ CloseList → items line inner text ≡ items_from line inner (length text) [] text
unfolding items
items_open line inner t text is b = items_other line inner (token text) text (λ e. b (is ∙ e))

pub items_none : (line : ℕ) (inner : Parser Tree) (text : Bytes) → token text ≡ CloseList → items line inner text ≡ Ok ([], behind text)
unfolding items
items_none line inner text e = ap (λ t. items_by line inner t text) e

pairs_other : (line : ℕ) (inner : Parser Tree) (t : Token) (text : Bytes) → t ≢ CloseMap → pairs_by line inner t text ≡ pairs_from line inner (length text) [] [] text
pairs_other line inner OpenList text b = refl
pairs_other line inner CloseList text b = refl
pairs_other line inner OpenMap text b = refl
pairs_other line inner CloseMap text b = absurd (b refl)
pairs_other line inner Comma text b = refl
pairs_other line inner (Key words) text b = refl
pairs_other line inner (Scalar words) text b = refl
pairs_other line inner Bad text b = refl

pub pairs_open : (line : ℕ) (inner : Parser Tree) (t : Token) (text : Bytes) → t ≡ token text → t ≢ CloseMap → pairs line inner text ≡ pairs_from line inner (length text) [] [] text
unfolding pairs
pairs_open line inner t text is b = pairs_other line inner (token text) text (λ e. b (is ∙ e))

pub pairs_none : (line : ℕ) (inner : Parser Tree) (text : Bytes) → token text ≡ CloseMap → pairs line inner text ≡ Ok ([], behind text)
unfolding pairs
pairs_none line inner text e = ap (λ t. pairs_by line inner t text) e

pub key_same : (line : ℕ) (other : YamlKind) (xs ys : List Bytes) → SameKeys xs ys → (t : Token) → key line other xs t ≡ key line other ys t
unfolding new_key
key_same line other xs ys same OpenList = refl
key_same line other xs ys same CloseList = refl
key_same line other xs ys same OpenMap = refl
key_same line other xs ys same CloseMap = refl
key_same line other xs ys same Comma = refl
key_same line other xs ys same (Key words) =
    ap (λ t. unless_fault line (key_fault words) (cond t (refuse line DuplicateKey) (Ok tt)) >>= (λ _. Ok words)) (same words.text)
key_same line other xs ys same (Scalar words) = refl
key_same line other xs ys same Bad = refl

pub bind_same : {A B : Type 0} (o : Outcome A) (f h : A → Outcome B) → ((a : A) → f a ≡ h a) → (o >>= f) ≡ (o >>= h)
bind_same (Ok a) f h same = same a
bind_same (Err e) f h same = refl

pub keys_more : (xs ys : List Bytes) (k : Bytes) → SameKeys xs ys → SameKeys (xs ++ k ∷ []) (ys ++ k ∷ [])
keys_more xs ys k same q =
    list_any-append (bytes_eq q) xs (k ∷ []) ∙ ap (λ t. t || list_any (bytes_eq q) (k ∷ [])) (same q) ∙ sym (list_any-append (bytes_eq q) ys (k ∷ []))

-- The pairs don't depend on how the keys before them are kept.
pub pairs_same : (line : ℕ) (inner : Parser Tree) (n : ℕ) (xs ys : List Bytes) (found : List Pair) (text : Bytes) → SameKeys xs ys
    → pairs_from line inner n xs found text ≡ pairs_from line inner n ys found text
unfolding pairs_from
pairs_same line inner zero xs ys found text same = refl
pairs_same line inner (suc n) xs ys found text same =
    ap (λ o. o >>= (λ k. inner (behind text) >>= (λ x. behind_pair line (token x.1) (pairs_from line inner n (xs ++ k.text ∷ []) (found ++ pair_at line k.text x.0 ∷ []) (behind x.1)) (Ok (found ++ pair_at line k.text x.0 ∷ [], behind x.1)))))
    (key_same line Flow xs ys same (token text))
    ∙ bind_same (key line Flow ys (token text)) _ _ (λ k. bind_same (inner (behind text)) _ _ (λ x.
    ap (λ more. behind_pair line (token x.1) more (Ok (found ++ pair_at line k.text x.0 ∷ [], behind x.1)))
    (pairs_same line inner n (xs ++ k.text ∷ []) (ys ++ k.text ∷ []) (found ++ pair_at line k.text x.0 ∷ []) (behind x.1) (keys_more xs ys k.text same))))

pub pair_spoilt : {whole : Outcome (List Pair × Bytes)} (line : ℕ) (inner : Parser Tree) (n : ℕ) (seen : List Bytes) (found : List Pair) (text at rest : Bytes) (k : Words) (x : Tree) (t : Token)
    → whole ≡ pairs_from line inner (suc n) seen found text → key line Flow seen (token text) ≡ Ok k → at ≡ behind text → inner at ≡ Ok (x, rest) → t ≡ token rest → t ≢ Comma → t ≢ CloseMap
    → whole ≡ refuse line Flow
unfolding pairs_from
pair_spoilt line inner n seen found text at rest k x t so_far named here one is a b =
    so_far ∙ rw (named, ← here, one) (pair_wrong line (token rest) _ _ (λ e. a (is ∙ e)) (λ e. b (is ∙ e)))

pub pair_more : {whole : Outcome (List Pair × Bytes)} (line : ℕ) (inner : Parser Tree) (n : ℕ) (seen keys : List Bytes) (found : List Pair) (text at rest : Bytes) (k : Words) (x : Tree) (p : Pair) (t : Token)
    → whole ≡ pairs_from line inner (suc n) seen found text → key line Flow seen (token text) ≡ Ok k → at ≡ behind text → inner at ≡ Ok (x, rest) → t ≡ token rest → t ≡ Comma
    → SameKeys keys (seen ++ k.text ∷ []) → as_pair line k.text x ≡ Ok p
    → whole ≡ pairs_from line inner n keys (found ++ p ∷ []) (behind rest)
unfolding pairs_from
pair_more line inner n seen keys found text at rest k x p t so_far named here one is comma same made =
    let same_pair : pair_at line k.text x ≡ p = cc in
    so_far ∙ rw (named, ← here, one, ← is, comma, same_pair) (sym (pairs_same line inner n keys (seen ++ k.text ∷ []) (found ++ p ∷ []) (behind rest) same))

pub pair_last : {whole : Outcome (List Pair × Bytes)} (line : ℕ) (inner : Parser Tree) (n : ℕ) (seen : List Bytes) (found : List Pair) (text at rest : Bytes) (k : Words) (x : Tree) (p : Pair) (t : Token)
    → whole ≡ pairs_from line inner (suc n) seen found text → key line Flow seen (token text) ≡ Ok k → at ≡ behind text → inner at ≡ Ok (x, rest) → t ≡ token rest → t ≡ CloseMap
    → as_pair line k.text x ≡ Ok p → whole ≡ Ok (found ++ p ∷ [], behind rest)
unfolding pairs_from
pair_last line inner n seen found text at rest k x p t so_far named here one is close made =
    let same_pair : pair_at line k.text x ≡ p = cc in
    so_far ∙ rw (named, ← here, one, ← is, close, same_pair) refl

by_wrong : (line : ℕ) (as_list : Parser (List Tree)) (as_map : Parser (List Pair)) (t : Token) (rest : Bytes)
    → t ≢ OpenList → t ≢ OpenMap → ((w : Words) → t ≢ Scalar w) → value_by line as_list as_map t rest ≡ refuse line Flow
by_wrong line as_list as_map OpenList rest a b s = absurd (a refl)
by_wrong line as_list as_map CloseList rest a b s = refl
by_wrong line as_list as_map OpenMap rest a b s = absurd (b refl)
by_wrong line as_list as_map CloseMap rest a b s = refl
by_wrong line as_list as_map Comma rest a b s = refl
by_wrong line as_list as_map (Key words) rest a b s = refl
by_wrong line as_list as_map (Scalar words) rest a b s = absurd (s words refl)
by_wrong line as_list as_map Bad rest a b s = refl

-- a value by its first piece
pub value_zero : (line : ℕ) (text : Bytes) (t : Token) → t ≡ token text
    → value line 0 text ≡ value_by line (λ rest. refuse line TooDeep) (λ rest. refuse line TooDeep) t (behind text)
unfolding value
value_zero line text t is = ap (λ u. value_by line (λ rest. refuse line TooDeep) (λ rest. refuse line TooDeep) u (behind text)) (sym is)

pub value_suc : (line depth : ℕ) (text : Bytes) (t : Token) → t ≡ token text
    → value line (depth + 1) text ≡ value_by line (items line (value line depth)) (pairs line (value line depth)) t (behind text)
unfolding value
value_suc line depth text t is =
    let e : depth + 1 ≡ suc depth = omega arith in
    ap (λ d. value line d text) e ∙ ap (λ u. value_by line (items line (value line depth)) (pairs line (value line depth)) u (behind text)) (sym is)

pub value_zero_wrong : (line : ℕ) (text : Bytes) (t : Token) → t ≡ token text → t ≢ OpenList → t ≢ OpenMap → ((w : Words) → t ≢ Scalar w) → value line 0 text ≡ refuse line Flow
value_zero_wrong line text t is a b s =
    value_zero line text t is ∙ by_wrong line (λ rest. refuse line TooDeep) (λ rest. refuse line TooDeep) t (behind text) a b s

pub value_suc_wrong : (line depth : ℕ) (text : Bytes) (t : Token) → t ≡ token text → t ≢ OpenList → t ≢ OpenMap → ((w : Words) → t ≢ Scalar w)
    → value line (depth + 1) text ≡ refuse line Flow
value_suc_wrong line depth text t is a b s =
    value_suc line depth text t is ∙ by_wrong line (items line (value line depth)) (pairs line (value line depth)) t (behind text) a b s
