-- What the row of a list of terms shows, and when two rows are equal.
use Rattle.std.proofs.Common.{◌≡◌, ◌≢◌, ℕ, ◌+◌, ◌<◌, cond, List, [], ◌∷◌, ◌++◌, map, length, get_or, take, drop, Option, Some, None, unwrap_or, refl, sym, ap, subst, ◌∙◌, arith, add-zero, zero-add, take-append-drop}
use Rattle.std.specs.List.{AllByRecursion}
use Rattle.std.specs.FinMap as finite
use Rattle.std.specs.declared.cmp.Ordering.{Ordering}
use Rattle.std.specs.declared.cmp.Ordering.TheVariants.{Less, Equal, Greater}
use Rattle.std.specs.Ordering.{eq_by_cmp}
use Rattle.std.proofs.lemmas.List.{drop_more}
use Rattle.std.proofs.lemmas.List.Elements.{All-from_recursion, recursion_from_All}
use Rattle.integral_index.specs.declared.Order.{Order}
use Rattle.integral_index.specs.Integral.{Integral}
use Rattle.integral_index.specs.Order.{by_fields, compare}
use Rattle.integral_index.proofs.Orders.{by_fields-total, by_fields-IsAntisymmetric, compare-IsAntisymmetric}
use Rattle.sparse_row.specs.declared.Term.{Term}
use Rattle.sparse_row.specs.Row.{Row, coefficient, IsRow, IsEmpty, IsGreatest}
use Rattle.sparse_row.specs.Terms.{total_at, coefficient_at, entry_of, row_of, IsTermList, AllBelow}
use Rattle.sparse_row.proofs.TermLists.{Greater-from_Less, eq_by_fields-differ, eq_by_fields-itself, coefficient_at-itself, coefficient_at-other, by_integrals, total_at-cons, total_at-append, total_at-under, total_at-over, AllUnder-lower, AllOver-front, Descends, Descends-from_pairs, pairs_from_Descends, Descends-back}

-- ---- the terms of a descending list

-- a list of terms, with residues modulo p for coefficients
pub record IsTerms (p : ℕ) (order : Order) (ts : List Term) : Type 0 where
  pub descend : Descends order ts
  pub no_zero : AllByRecursion (λ t. t.coefficient ≢ 0) ts
  pub below : AllByRecursion (λ t. t.coefficient < p) ts

pub IsTerms-from_list : (p : ℕ) (order : Order) (ts : List Term) → IsTermList order ts → AllBelow p ts → IsTerms p order ts
IsTerms-from_list p order ts list below = record {
  descend = Descends-from_pairs order ts list.descend;
  no_zero = recursion_from_All (λ t. t.coefficient ≢ 0) ts list.no_zero;
  below = recursion_from_All (λ t. t.coefficient < p) ts below;
}

pub list_from_IsTerms : (p : ℕ) (order : Order) (ts : List Term) → IsTerms p order ts → IsTermList order ts
list_from_IsTerms p order ts h = record {
  descend = pairs_from_Descends order ts h.descend;
  no_zero = All-from_recursion (λ t. t.coefficient ≢ 0) ts h.no_zero;
}

pub below_from_IsTerms : (p : ℕ) (order : Order) (ts : List Term) → IsTerms p order ts → AllBelow p ts
below_from_IsTerms p order ts h = All-from_recursion (λ t. t.coefficient < p) ts h.below

-- a list around one of its terms
pub around : (ts : List Term) (k : ℕ) (d : Term) → k < length ts → ts ≡ take k ts ++ get_or ts k d ∷ drop (k + 1) ts
around ts k d h = sym (take-append-drop k ts) ∙ ap (λ us. take k ts ++ us) (drop_more ts k d h)

-- at the head, the total is the head's coefficient
pub total_at-head : (order : Order) (t : Term) (ts : List Term) → Descends order (t ∷ ts) → total_at t.integral (t ∷ ts) ≡ t.coefficient
total_at-head order t ts h =
    total_at-cons t.integral t ts ∙ (λ i. coefficient_at-itself t i + total_at-under order t.integral ts h.0 i) ∙ add-zero _

-- a term's integral is that of no other term
pub total_at-middle : (order : Order) (ts : List Term) (t : Term) (us : List Term) → Descends order (ts ++ t ∷ us) → total_at t.integral (ts ++ t ∷ us) ≡ t.coefficient
total_at-middle order ts t us h =
    total_at-append t.integral ts (t ∷ us)
    ∙ (λ i. total_at-over order t.integral ts (AllOver-front order ts t us h) i + total_at-head order t us (Descends-back order ts (t ∷ us) h) i)
    ∙ zero-add _

pub total_at-place : (order : Order) (ts : List Term) (k : ℕ) (d : Term) → k < length ts → Descends order ts → total_at (get_or ts k d).integral ts ≡ (get_or ts k d).coefficient
total_at-place order ts k d below h =
    let t = get_or ts k d in
    let e = around ts k d below in
    ap (total_at t.integral) e ∙ total_at-middle order (take k ts) t (drop (k + 1) ts) (subst (Descends order) e h)

-- totals of residues are residues
pub total_at-below : (p : ℕ) (order : Order) (x : Integral) (ts : List Term) → 0 < p → Descends order ts → AllByRecursion (λ t. t.coefficient < p) ts → total_at x ts < p
total_at-below p order x [] positive h below = positive
total_at-below p order x (t ∷ ts) positive h below = by_integrals x t.integral
    (λ same. let e : total_at x (t ∷ ts) ≡ t.coefficient = ap (λ y. total_at y (t ∷ ts)) same ∙ total_at-head order t ts h in omega (arith, below.0))
    (λ other. omega (arith, total_at-cons x t ts, coefficient_at-other x t other, total_at-below p order x ts positive h.1 below.1))

-- a list under x shows nothing at x, nor above it
pub total_at-above_head : (order : Order) (x : Integral) (t : Term) (ts : List Term) → Descends order (t ∷ ts) → compare order x t.integral ≡ Greater → total_at x (t ∷ ts) ≡ 0
total_at-above_head order x t ts h above = total_at-under order x (t ∷ ts) (above, AllUnder-lower order x t.integral ts above h.0)

-- two lists with the same totals
abbrev SameTotals : List Term → List Term → Type 0
SameTotals ts us = (x : Integral) → total_at x ts ≡ total_at x us

same_heads : (order : Order) (t u : Term) (ts us : List Term) → t.integral ≡ u.integral → Descends order (t ∷ ts) → Descends order (u ∷ us) → SameTotals (t ∷ ts) (u ∷ us) → t ≡ u
same_heads order t u ts us e h g same =
    let c : t.coefficient ≡ u.coefficient =
    sym (total_at-head order t ts h) ∙ same t.integral ∙ ap (λ x. total_at x (u ∷ us)) e ∙ total_at-head order u us g in
    λ i. record { integral = e i; coefficient = c i }

same_rests : (t u : Term) (ts us : List Term) → t ≡ u → SameTotals (t ∷ ts) (u ∷ us) → SameTotals ts us
same_rests t u ts us e same x =
    omega (arith, total_at-cons x t ts, total_at-cons x u us, same x, ap (coefficient_at x) e)

same_lists : (order : Order) (t u : Term) (ts us : List Term) (o : Ordering) → compare order t.integral u.integral ≡ o → Descends order (t ∷ ts) → Descends order (u ∷ us) → t.coefficient ≢ 0 → u.coefficient ≢ 0 → SameTotals (t ∷ ts) (u ∷ us) → (SameTotals ts us → ts ≡ us) → t ∷ ts ≡ u ∷ us
same_lists order t u ts us Greater e h g n m same rest =
    absurd (n (sym (total_at-head order t ts h) ∙ same t.integral ∙ total_at-above_head order t.integral u us g e))
same_lists order t u ts us Less e h g n m same rest =
    absurd (m (sym (total_at-head order u us g) ∙ sym (same u.integral) ∙ total_at-above_head order u.integral t ts h (Greater-from_Less order t.integral u.integral e)))
same_lists order t u ts us Equal e h g n m same rest =
    let head = same_heads order t u ts us (compare-IsAntisymmetric order t.integral u.integral e) h g same in
    let tail = rest (same_rests t u ts us head same) in
    λ i. head i ∷ tail i

same_descending : (order : Order) (ts us : List Term) → Descends order ts → Descends order us → AllByRecursion (λ t. t.coefficient ≢ 0) ts → AllByRecursion (λ t. t.coefficient ≢ 0) us → SameTotals ts us → ts ≡ us
same_descending order [] [] h g n m same = refl
same_descending order [] (u ∷ us) h g n m same = absurd (m.0 (sym (total_at-head order u us g) ∙ sym (same u.integral)))
same_descending order (t ∷ ts) [] h g n m same = absurd (n.0 (sym (total_at-head order t ts h) ∙ same t.integral))
same_descending order (t ∷ ts) (u ∷ us) h g n m same =
    same_lists order t u ts us (compare order t.integral u.integral) refl h g n.0 m.0 same (same_descending order ts us h.1 g.1 n.1 m.1)

-- two descending lists with the same totals are the same list
pub same_terms : (order : Order) (ts us : List Term) → IsTermList order ts → IsTermList order us → ((x : Integral) → total_at x ts ≡ total_at x us) → ts ≡ us
same_terms order ts us left right same =
    same_descending order ts us (Descends-from_pairs order ts left.descend) (Descends-from_pairs order us right.descend)
    (recursion_from_All (λ t. t.coefficient ≢ 0) ts left.no_zero) (recursion_from_All (λ t. t.coefficient ≢ 0) us right.no_zero) same

-- ---- the row of a list of terms

find-unlike : (x : Integral) (t : Term) (rest : Option ℕ) → x ≢ t.integral → cond (eq_by_cmp by_fields x t.integral) (Some t.coefficient) rest ≡ rest
find-unlike x t rest differ = ap (λ b. cond b (Some t.coefficient) rest) (eq_by_fields-differ x t.integral differ)

find-like : (x : Integral) (t : Term) (rest : Option ℕ) → x ≡ t.integral → cond (eq_by_cmp by_fields x t.integral) (Some t.coefficient) rest ≡ Some t.coefficient
find-like x t rest same =
    ap (λ b. cond b (Some t.coefficient) rest) (ap (λ y. eq_by_cmp by_fields y t.integral) same ∙ eq_by_fields-itself t.integral)

coefficient-find : (order : Order) (x : Integral) (ts : List Term) → Descends order ts → unwrap_or (finite.find by_fields x (map entry_of ts)) 0 ≡ total_at x ts
coefficient-find order x [] h = refl
coefficient-find order x (t ∷ ts) h = by_integrals x t.integral
    (λ same.
    ap (λ o. unwrap_or o 0) (find-like x t (finite.find by_fields x (map entry_of ts)) same)
    ∙ sym (ap (λ y. total_at y (t ∷ ts)) same ∙ total_at-head order t ts h))
    (λ other.
    ap (λ o. unwrap_or o 0) (find-unlike x t (finite.find by_fields x (map entry_of ts)) other)
    ∙ coefficient-find order x ts h.1
    ∙ sym (total_at-cons x t ts ∙ ap (λ n. n + total_at x ts) (coefficient_at-other x t other) ∙ zero-add _))

-- the coefficient in the row is the total of the terms
pub coefficient-row_of : (order : Order) (ts : List Term) → Descends order ts → (x : Integral) → coefficient (row_of order ts) x ≡ total_at x ts
coefficient-row_of order ts h x =
    ap (λ o. unwrap_or o 0) (finite.get-from_entries by_fields-total (map entry_of ts) x) ∙ coefficient-find order x ts h

find-no_zero : (x : Integral) (ts : List Term) → AllByRecursion (λ t. t.coefficient ≢ 0) ts → finite.find by_fields x (map entry_of ts) ≢ Some 0
find-no_zero x [] h e = absurd (cc)
find-no_zero x (t ∷ ts) h e = by_integrals x t.integral
    (λ same. let found : Some t.coefficient ≡ Some 0 = sym (find-like x t (finite.find by_fields x (map entry_of ts)) same) ∙ e in absurd (h.0 (cc)))
    (λ other. find-no_zero x ts h.1 (sym (find-unlike x t (finite.find by_fields x (map entry_of ts)) other) ∙ e))

pub no_zero-row_of : (order : Order) (ts : List Term) → AllByRecursion (λ t. t.coefficient ≢ 0) ts → (x : Integral) → finite.get (row_of order ts).terms x ≢ Some 0
no_zero-row_of order ts h x e = find-no_zero x ts h (sym (finite.get-from_entries by_fields-total (map entry_of ts) x) ∙ e)

pub IsRow-row_of : (p : ℕ) (order : Order) (ts : List Term) → 0 < p → IsTerms p order ts → IsRow p order (row_of order ts)
IsRow-row_of p order ts positive h = record {
  ordered = refl;
  below = λ x. let e = coefficient-row_of order ts h.descend x in omega (arith, total_at-below p order x ts positive h.descend h.below);
  no_zero = no_zero-row_of order ts h.no_zero;
}

-- the terms of a row of residues are residues
pub IsTerms-from_row : (p : ℕ) (order : Order) (ts : List Term) → IsTermList order ts → ((x : Integral) → coefficient (row_of order ts) x < p) → IsTerms p order ts
IsTerms-from_row p order ts list below =
    let descend = Descends-from_pairs order ts list.descend in
    IsTerms-from_list p order ts list (λ k d within.
    let e = total_at-place order ts k d within descend in
    let f = coefficient-row_of order ts descend (get_or ts k d).integral in
    omega (arith, below (get_or ts k d).integral))

pub IsEmpty-row_of : (order : Order) → IsEmpty (row_of order [])
IsEmpty-row_of order x = coefficient-row_of order [] tt x

-- the head is the greatest
pub IsGreatest-head : (order : Order) (t : Term) (ts : List Term) → IsTermList order (t ∷ ts) → IsGreatest order (row_of order (t ∷ ts)) t.integral
IsGreatest-head order t ts list =
    let descend = Descends-from_pairs order (t ∷ ts) list.descend in
    record {
      shown = λ e. list.no_zero 0 t (omega arith) (sym (total_at-head order t ts descend) ∙ sym (coefficient-row_of order (t ∷ ts) descend t.integral) ∙ e);
      greatest = λ y shows above. shows (coefficient-row_of order (t ∷ ts) descend y ∙ total_at-above_head order y t ts descend above);
    }

-- a row of some term shows its first
pub IsEmpty-from_length : (order : Order) (ts : List Term) → length ts ≡ 0 → IsEmpty (row_of order ts)
IsEmpty-from_length order [] e = IsEmpty-row_of order
IsEmpty-from_length order (t ∷ ts) e = absurd (omega arith)

pub length-from_empty : (order : Order) (ts : List Term) → IsTermList order ts → IsEmpty (row_of order ts) → length ts ≡ 0
length-from_empty order [] list e = refl
length-from_empty order (t ∷ ts) list e = absurd ((IsGreatest-head order t ts list).shown (e t.integral))

-- ---- rows

-- a row has one greatest integral
pub greatest_same : (order : Order) (row : Row) (x y : Integral) → IsGreatest order row x → IsGreatest order row y → x ≡ y
greatest_same order row x y h g = go (compare order x y) refl
  where
    go : (o : Ordering) → compare order x y ≡ o → x ≡ y
    go Equal e = compare-IsAntisymmetric order x y e
    go Greater e = absurd (g.greatest x h.shown e)
    go Less e = absurd (h.greatest y g.shown (Greater-from_Less order x y e))

same_options : (a b : Option ℕ) → a ≢ Some 0 → b ≢ Some 0 → unwrap_or a 0 ≡ unwrap_or b 0 → a ≡ b
same_options None None n m e = refl
same_options None (Some c) n m e = absurd (m (ap (λ k. Some k) (sym e)))
same_options (Some c) None n m e = absurd (n (ap (λ k. Some k) e))
same_options (Some c) (Some d) n m e = ap (λ k. Some k) e

-- two rows in one order with the same coefficients are equal
pub same_row : (p : ℕ) (order : Order) (row other : Row) → IsRow p order row → IsRow p order other → ((x : Integral) → coefficient row x ≡ coefficient other x) → row ≡ other
same_row p order row other h g same =
    let orders : row.order ≡ other.order = h.ordered ∙ sym g.ordered in
    let maps : row.terms ≡ other.terms =
    finite.same_map by_fields-total by_fields-IsAntisymmetric row.terms other.terms (λ x. same_options _ _ (h.no_zero x) (g.no_zero x) (same x)) in
    λ i. record { order = orders i; terms = maps i }

-- one row has one list of terms
pub terms_of_row : (order : Order) (ts us : List Term) → IsTermList order ts → IsTermList order us → row_of order ts ≡ row_of order us → ts ≡ us
terms_of_row order ts us left right same =
    same_terms order ts us left right (λ x.
    sym (coefficient-row_of order ts (Descends-from_pairs order ts left.descend) x)
    ∙ ap (λ row. coefficient row x) same ∙ coefficient-row_of order us (Descends-from_pairs order us right.descend) x)

-- ---- a row by the terms that it is kept as

pub below_of_row : (p : ℕ) (order other : Order) (ts : List Term) (row : Row) → row_of order ts ≡ row → IsTermList order ts → IsRow p other row → AllBelow p ts
below_of_row p order other ts row is list h =
    let below : (x : Integral) → coefficient (row_of order ts) x < p = subst (λ r. (x : Integral) → coefficient r x < p) (sym is) h.below in
    below_from_IsTerms p order ts (IsTerms-from_row p order ts list below)

pub coefficient_of_list : (order : Order) (ts : List Term) → IsTermList order ts → (x : Integral) → coefficient (row_of order ts) x ≡ total_at x ts
coefficient_of_list order ts list = coefficient-row_of order ts (Descends-from_pairs order ts list.descend)

pub row_of_list : (p : ℕ) (order : Order) (ts : List Term) → 0 < p → IsTermList order ts → AllBelow p ts → IsRow p order (row_of order ts)
row_of_list p order ts positive list below = IsRow-row_of p order ts positive (IsTerms-from_list p order ts list below)
