-- How an ordered set of keys meets the list of those that were added.
use Rattle.std.proofs.Common.{◌≡◌, Bool, true, false, ◌||◌, List, [], ◌∷◌, ◌++◌, map, Bor, refl, ap, sym, ◌∙◌}
use Rattle.std.specs.BTreeSet.{insert_key}
use Rattle.std.specs.BTreeMap.{is_at}
use Rattle.std.specs.Cmp.Lexicographic.{slice_cmp}
use Rattle.std.specs.Ordering.{nat_cmp, is_eq, match_ordering}
use Rattle.std.specs.declared.cmp.Ordering.{Ordering}
use Rattle.std.specs.declared.cmp.Ordering.TheVariants.{Less, Equal, Greater}
use Rattle.std.specs.List.{list_any}
use Rattle.std.specs.Str.{bytes_eq}
use Rattle.std.proofs.lemmas.Map.Text.{is_eq-slice_cmp}
use Rattle.std.proofs.lemmas.Slice.Eq.{bytes_eq-Decides}
use Rattle.std.proofs.lemmas.List.Folds.{list_any-append}
use Rattle.yaml_text.specs.Lines.{Bytes}
use Rattle.yaml_text.specs.SameKeys.{has_key, SameKeys}

abbrev compare : Bor Bytes → Bor Bytes → Ordering
compare x y = slice_cmp nat_cmp x.now y.now

abbrev texts : List (Bor Bytes) → List Bytes
texts = map (λ x. x.now)

pub has_text : (q : Bor Bytes) (ks : List (Bor Bytes)) → list_any (is_at (compare q)) ks ≡ has_key q.now (texts ks)
has_text q [] = refl
has_text q (k ∷ ks) = rw (is_eq-slice_cmp q.now k.now, has_text q ks) refl

or_twice : (a b : Bool) → (a || (a || b)) ≡ (a || b)
or_twice true b = refl
or_twice false b = refl

or_swap : (a b c : Bool) → (a || (b || c)) ≡ (b || (a || c))
or_swap true true c = refl
or_swap true false c = refl
or_swap false b c = refl

or_last : (a b : Bool) → (a || b) ≡ (b || (a || false))
or_last true true = refl
or_last true false = refl
or_last false true = refl
or_last false false = refl

insert_step : (q : Bytes) (k x : Bor Bytes) (xs : List (Bor Bytes)) (o : Ordering) → compare k x ≡ o
    → has_key q (texts (insert_key compare xs k)) ≡ (bytes_eq q k.now || has_key q (texts xs))
    → has_key q (texts (match_ordering o (k ∷ x ∷ xs) (x ∷ xs) (x ∷ insert_key compare xs k))) ≡ (bytes_eq q k.now || has_key q (texts (x ∷ xs)))
insert_step q k x xs Less e rest = refl
insert_step q k x xs Equal e rest =
    let tied : bytes_eq k.now x.now ≡ true = sym (is_eq-slice_cmp k.now x.now) ∙ ap is_eq e in
    let same : k.now ≡ x.now = (bytes_eq-Decides k.now x.now).0 tied in
    sym (ap (λ t. bytes_eq q t || has_key q (texts (x ∷ xs))) same ∙ or_twice (bytes_eq q x.now) (has_key q (texts xs)))
insert_step q k x xs Greater e rest =
    ap (λ t. bytes_eq q x.now || t) rest ∙ or_swap (bytes_eq q x.now) (bytes_eq q k.now) (has_key q (texts xs))

insert_has : (q : Bytes) (k : Bor Bytes) (ks : List (Bor Bytes)) → has_key q (texts (insert_key compare ks k)) ≡ (bytes_eq q k.now || has_key q (texts ks))
insert_has q k [] = refl
insert_has q k (x ∷ xs) = insert_step q k x xs (compare k x) refl (insert_has q k xs)

pub added : (k : Bor Bytes) (old new : List (Bor Bytes)) → new ≡ insert_key compare old k → SameKeys (texts new) (texts old ++ k.now ∷ [])
added k old new e q =
    ap (λ ks. has_key q (texts ks)) e ∙ insert_has q k old ∙ or_last (bytes_eq q k.now) (has_key q (texts old)) ∙ sym (list_any-append (bytes_eq q) (texts old) (k.now ∷ []))
