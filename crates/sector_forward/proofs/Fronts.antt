-- The rows that a loop has taken so far are the first of its list.
use Rattle.std.proofs.Common.{◌≡◌, ℕ, ◌<◌, Bool, false, IsTrue, List, [], ◌∷◌, ◌++◌, length, get_or, AllPairs, sym, ap, subst, ◌∙◌, inl, inr, arith, length-append}
use Rattle.std.proofs.lemmas.Bool.{cases_lt, false≢true}
use Rattle.std.proofs.lemmas.List.{get_or_append_left, get_or_push}
use Rattle.integral_index.specs.declared.Order.{Order}
use Rattle.sparse_row.specs.Row.{Row}
use Rattle.sparse_row.specs.ReducedList.{Ascend}
use Rattle.sector_forward.proofs.StepLemmas.{same_at}

pub front_more : (rows done : List Row) (row : Row) → length done < length rows → row ≡ get_or rows (length done) row → ((k : ℕ) (d : Row) → k < length done → get_or done k d ≡ get_or rows k d) → (k : ℕ) (d : Row) → k < length (done ++ row ∷ []) → get_or (done ++ row ∷ []) k d ≡ get_or rows k d
front_more rows done row next read front k d h =
    let len = length-append done (row ∷ []) in
    elim (cases_lt k (length done)) [
      | inl old ↦ get_or_append_left done (row ∷ []) d k old ∙ front k d old
      | inr last ↦
          let here : length done ≡ k = omega arith in
          get_or_push done row d k here ∙ read ∙ same_at rows (length done) row d next ∙ ap (λ n. get_or rows n d) here
    ]

-- the next row is above all that were taken
pub ascend_so_far : (order : Order) (rows done : List Row) (row : Row) → length done < length rows → row ≡ get_or rows (length done) row → AllPairs (Ascend order) rows → ((k : ℕ) (d : Row) → k < length done → get_or done k d ≡ get_or rows k d) → (k : ℕ) (d : Row) → k < length done → Ascend order (get_or done k d) row
ascend_so_far order rows done row next read ascend front k d h =
    let pair = ascend k (length done) d h next in
    let last : get_or rows (length done) d ≡ row = same_at rows (length done) d row next ∙ sym read in
    subst (λ r. Ascend order (get_or done k d) r) last (subst (λ r. Ascend order r (get_or rows (length done) d)) (sym (front k d h)) pair)

pub not_true : (b : Bool) → {P : Type 0} → (P → IsTrue b) → b ≡ false → ¬ P
not_true b so none p = false≢true (sym none ∙ so p)
