-- What an edit of a descending list of terms at one place leaves.
use Rattle.std.proofs.Common.{◌≡◌, ◌≢◌, ℕ, suc, ◌+◌, ◌<◌, List, [], ◌∷◌, ◌++◌, length, get_or, set, take, drop, sym, ap, subst, ◌∙◌, arith, add-one, take-append-drop}
use Rattle.std.specs.Prelude.{All}
use Rattle.std.specs.List.{AllByRecursion}
use Rattle.std.specs.declared.cmp.Ordering.TheVariants.{Less, Greater}
use Rattle.std.proofs.lemmas.List.{set_split}
use Rattle.std.proofs.lemmas.List.Elements.{recursion_from_All, All-from_recursion, All-set}
use Rattle.integral_index.specs.declared.Order.{Order}
use Rattle.integral_index.specs.Integral.{Integral}
use Rattle.integral_index.specs.Order.{compare}
use Rattle.sparse_row.specs.declared.Term.{Term}
use Rattle.sparse_row.specs.Row.{coefficient}
use Rattle.sparse_row.specs.Terms.{coefficient_at, total_at, IsTermList, row_of}
use Rattle.sparse_row.proofs.TermLists.{Greater-from_Less, coefficient_at-other, total_at-cons, total_at-append, total_at-under, total_at-over, each-weaker, each-append, each-front, each-back, AllUnder, AllOver, AllOver-front, Descends, Descends-from_pairs, pairs_from_Descends, Descends-back, Descends-insert}
use Rattle.sparse_row.proofs.RowValues.{around, total_at-middle, coefficient-row_of}

abbrev Under : Order → Term → Term → Type 0
Under order t u = compare order t.integral u.integral ≡ Greater

-- another coefficient at a place changes no integral
Descends-put : (order : Order) (ts : List Term) (t u : Term) (us : List Term) → u.integral ≡ t.integral → Descends order (ts ++ t ∷ us) → Descends order (ts ++ u ∷ us)
Descends-put order [] t u us e h = (subst (λ x. AllUnder order x us) (sym e) h.0, h.1)
Descends-put order (s ∷ ts) t u us e h =
    let rest = each-back (Under order s) ts (t ∷ us) h.0 in (
      each-append (Under order s) ts (u ∷ us) (each-front (Under order s) ts (t ∷ us) h.0) (subst (λ x. compare order s.integral x ≡ Greater) (sym e) rest.0, rest.1),
      Descends-put order ts t u us e h.1,
    )

-- the sum over a list around one of its terms
total_at-around : (x : Integral) (ts : List Term) (t : Term) (us : List Term) → total_at x (ts ++ t ∷ us) ≡ coefficient_at x t + total_at x (ts ++ us)
total_at-around x ts t us = omega (arith, total_at-append x ts (t ∷ us), total_at-append x ts us, total_at-cons x t us)

-- ---- at the place of a term

module _ (order : Order) (ts : List Term) (k : ℕ) (t : Term) (list : IsTermList order ts) (within : k < length ts) (is : get_or ts k t ≡ t) where
  split : ts ≡ take k ts ++ t ∷ drop (suc k) ts
  split = around ts k t within ∙ (λ i. take k ts ++ is i ∷ drop (add-one k i) ts)

  descends : Descends order (take k ts ++ t ∷ drop (suc k) ts)
  descends = subst (Descends order) split (Descends-from_pairs order ts list.descend)

  pub total_at-of_place : total_at t.integral ts ≡ t.coefficient
  total_at-of_place = ap (total_at t.integral) split ∙ total_at-middle order (take k ts) t (drop (suc k) ts) descends

  pub total_at-removed_same : total_at t.integral (take k ts ++ drop (suc k) ts) ≡ 0
  total_at-removed_same =
      total_at-append t.integral (take k ts) (drop (suc k) ts)
      ∙ (λ i. total_at-over order t.integral (take k ts) (AllOver-front order (take k ts) t (drop (suc k) ts) descends) i + total_at-under order t.integral (drop (suc k) ts) (Descends-back order (take k ts) (t ∷ drop (suc k) ts) descends).0 i)

  pub total_at-removed_other : (x : Integral) → x ≢ t.integral → total_at x (take k ts ++ drop (suc k) ts) ≡ total_at x ts
  total_at-removed_other x differ =
      let e : total_at x ts ≡ total_at x (take k ts ++ t ∷ drop (suc k) ts) = ap (total_at x) split in
      omega (arith, total_at-around x (take k ts) t (drop (suc k) ts), coefficient_at-other x t differ)

  module _ (u : Term) (same : u.integral ≡ t.integral) where
    descends_put : Descends order (take k ts ++ u ∷ drop (suc k) ts)
    descends_put = Descends-put order (take k ts) t u (drop (suc k) ts) same descends

    pub IsTermList-put : u.coefficient ≢ 0 → IsTermList order (set ts k u)
    IsTermList-put nonzero = record {
      descend = pairs_from_Descends order (set ts k u) (subst (Descends order) (sym (set_split ts k u within)) descends_put);
      no_zero = All-set (λ term. term.coefficient ≢ 0) ts k u nonzero list.no_zero;
    }

    pub total_at-put_same : total_at t.integral (set ts k u) ≡ u.coefficient
    total_at-put_same =
        ap (total_at t.integral) (set_split ts k u within) ∙ ap (λ x. total_at x (take k ts ++ u ∷ drop (suc k) ts)) (sym same)
        ∙ total_at-middle order (take k ts) u (drop (suc k) ts) descends_put

    pub total_at-put_other : (x : Integral) → x ≢ t.integral → total_at x (set ts k u) ≡ total_at x ts
    total_at-put_other x differ =
        let e : total_at x ts ≡ total_at x (take k ts ++ t ∷ drop (suc k) ts) = ap (total_at x) split in
        let f : total_at x (set ts k u) ≡ total_at x (take k ts ++ u ∷ drop (suc k) ts) = ap (total_at x) (set_split ts k u within) in
        omega (arith, total_at-around x (take k ts) t (drop (suc k) ts), total_at-around x (take k ts) u (drop (suc k) ts), coefficient_at-other x t differ, coefficient_at-other x u (λ g. differ (g ∙ same)))

-- ---- at the place where a term of x would stand

module _ (order : Order) (ts : List Term) (k : ℕ) (x : Integral) (list : IsTermList order ts) (over : All (λ term. compare order term.integral x ≡ Greater) (take k ts)) (under : All (λ term. compare order term.integral x ≡ Less) (drop k ts)) where
  all_over : AllOver order x (take k ts)
  all_over = recursion_from_All (λ term. compare order term.integral x ≡ Greater) (take k ts) over

  all_under : AllUnder order x (drop k ts)
  all_under = each-weaker (λ t e. Greater-from_Less order t.integral x e) (drop k ts) (recursion_from_All (λ term. compare order term.integral x ≡ Less) (drop k ts) under)

  pub total_at-absent : total_at x ts ≡ 0
  total_at-absent =
      ap (total_at x) (sym (take-append-drop k ts)) ∙ total_at-append x (take k ts) (drop k ts)
      ∙ (λ i. total_at-over order x (take k ts) all_over i + total_at-under order x (drop k ts) all_under i)

  module _ (u : Term) (same : u.integral ≡ x) where
    descends_insert : Descends order (take k ts ++ u ∷ drop k ts)
    descends_insert =
        Descends-insert order (take k ts) u (drop k ts) (subst (Descends order) (sym (take-append-drop k ts)) (Descends-from_pairs order ts list.descend))
        (subst (λ y. AllOver order y (take k ts)) (sym same) all_over) (subst (λ y. AllUnder order y (drop k ts)) (sym same) all_under)

    pub IsTermList-insert : u.coefficient ≢ 0 → IsTermList order (take k ts ++ u ∷ drop k ts)
    IsTermList-insert nonzero =
        let each = recursion_from_All (λ term. term.coefficient ≢ 0) ts list.no_zero in
        let whole = subst (AllByRecursion (λ term. term.coefficient ≢ 0)) (sym (take-append-drop k ts)) each in
        record {
          descend = pairs_from_Descends order (take k ts ++ u ∷ drop k ts) descends_insert;
          no_zero = All-from_recursion (λ term. term.coefficient ≢ 0) (take k ts ++ u ∷ drop k ts)
              (each-append (λ term. term.coefficient ≢ 0) (take k ts) (u ∷ drop k ts) (each-front (λ term. term.coefficient ≢ 0) (take k ts) (drop k ts) whole)
              (nonzero, each-back (λ term. term.coefficient ≢ 0) (take k ts) (drop k ts) whole));
        }

    pub total_at-inserted_same : total_at x (take k ts ++ u ∷ drop k ts) ≡ u.coefficient
    total_at-inserted_same =
        ap (λ y. total_at y (take k ts ++ u ∷ drop k ts)) (sym same) ∙ total_at-middle order (take k ts) u (drop k ts) descends_insert

    pub total_at-inserted_other : (y : Integral) → y ≢ x → total_at y (take k ts ++ u ∷ drop k ts) ≡ total_at y ts
    total_at-inserted_other y differ =
        let e : total_at y (take k ts ++ drop k ts) ≡ total_at y ts = ap (total_at y) (take-append-drop k ts) in
        omega (arith, total_at-around y (take k ts) u (drop k ts), coefficient_at-other y u (λ g. differ (g ∙ same)))

-- ---- the coefficient that a search finds

pub coefficient_found : (order : Order) (ts : List Term) (x : Integral) (k : ℕ) (t : Term) → IsTermList order ts → k < length ts → ((d : Term) → (get_or ts k d).integral ≡ x) → t ≡ get_or ts k t → t.coefficient ≡ coefficient (row_of order ts) x
coefficient_found order ts x k t list within at is =
    sym (total_at-of_place order ts k t list within (sym is)) ∙ ap (λ y. total_at y ts) (ap (λ u. u.integral) is ∙ at t)
    ∙ sym (coefficient-row_of order ts (Descends-from_pairs order ts list.descend) x)

pub coefficient_absent : (order : Order) (ts : List Term) (x : Integral) (k : ℕ) → IsTermList order ts → All (λ term. compare order term.integral x ≡ Greater) (take k ts) → All (λ term. compare order term.integral x ≡ Less) (drop k ts) → 0 ≡ coefficient (row_of order ts) x
coefficient_absent order ts x k list over under =
    sym (coefficient-row_of order ts (Descends-from_pairs order ts list.descend) x ∙ total_at-absent order ts k x list over under)
