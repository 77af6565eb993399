-- Which pivots a row shows, by its terms.
use Rattle.std.proofs.Common.{◌≡◌, ◌≢◌, ℕ, suc, ◌+◌, ◌<◌, cond, List, [], ◌∷◌, length, get_or, refl, sym, ap, subst, ◌∙◌, inl, inr, arith, zero-add}
use Rattle.std.specs.declared.cmp.Ordering.TheVariants.{Less, Greater}
use Rattle.std.proofs.lemmas.Bool.{cases_order, cases_lt}
use Rattle.std.proofs.lemmas.Cmp.{tied_itself}
use Rattle.std.proofs.lemmas.List.Sums.{sum_by-cons}
use Rattle.integral_index.specs.declared.Order.{Order}
use Rattle.integral_index.specs.Integral.{Integral}
use Rattle.integral_index.specs.Order.{compare}
use Rattle.integral_index.proofs.Orders.{compare-total}
use Rattle.sparse_row.specs.declared.Term.{Term}
use Rattle.sparse_row.specs.Row.{Row, coefficient}
use Rattle.sparse_row.proofs.RowSpans.{no_row}
use Rattle.sparse_row.specs.Terms.{coefficient_at, total_at, IsTermList}
use Rattle.sector_forward.specs.Steps.{IsStairs, IsPivotAt, IsPlaceFor, ShowsNoneWithin}
use Rattle.sector_forward.proofs.Keys.{decided}
use Rattle.sector_forward.proofs.Keys.{key_cases}
use Rattle.sector_forward.proofs.StepLemmas.{stairs_less, same_at}

-- an integral with a total has a term
pub term_of_shown : (y : Integral) (terms : List Term) → total_at y terms ≢ 0 → (k : ℕ) × (k < length terms) × ((d : Term) → (get_or terms k d).integral ≡ y)
term_of_shown y [] some = absurd (some refl)
term_of_shown y (term ∷ terms) some =
    elim (key_cases y term.integral) [
      | inl same ↦ (0, omega arith, λ _. sym same.1)
      | inr apart ↦
          let none : coefficient_at y term ≡ 0 = ap (λ b. cond b term.coefficient 0) apart.0 in
          let later = term_of_shown y terms (λ e. some (sum_by-cons (coefficient_at y) term terms ∙ ap (λ u. u + total_at y terms) none ∙ zero-add (total_at y terms) ∙ e)) in
          (suc later.0, omega (arith, later.1), later.2)
    ]

-- no term before this place is of a pivot
abbrev pub NoPivotBefore : Order → List Row → List Term → ℕ → Type 0
NoPivotBefore order table terms place =
    (i : ℕ) → i < place → (k : ℕ) (y : Integral) (d : Term) → k < length table → IsPivotAt order table k y → (get_or terms i d).integral ≢ y

pub shows_none : (order : Order) (table : List Row) (terms : List Term) (row : Row) → ((y : Integral) → coefficient row y ≡ total_at y terms) → NoPivotBefore order table terms (length terms) → ShowsNoneWithin order table 0 (length table) row
shows_none order table terms row is none k y _ in_k pivot =
    elim (decided (coefficient row y)) [
      | inl e ↦ e
      | inr some ↦
          let found = term_of_shown y terms (λ e. some (is y ∙ e)) in
          let d : Term = get_or terms found.0 (no_term y) in
          absurd (none found.0 found.1 k y d in_k pivot (found.2 d))
    ]
  where
    no_term : Integral → Term
    no_term y = record { integral = y; coefficient = 0 }

-- the first term of a pivot is that of the greatest pivot that is shown
pub last_is_found : (p : ℕ) (order own : Order) (table : List Row) (terms : List Term) (row : Row) (j : ℕ) (term : Term) (place : ℕ) → IsStairs p order table → own ≡ order → IsTermList own terms → ((y : Integral) → coefficient row y ≡ total_at y terms) → j < length terms → term ≡ get_or terms j term → NoPivotBefore order table terms j → place < length table → IsPivotAt order table place term.integral → ShowsNoneWithin order table (place + 1) (length table) row
last_is_found p order own table terms row j term place stairs same_order list is in_j read none in_place here k y after in_k pivot =
    elim (decided (coefficient row y)) [
      | inl e ↦ e
      | inr some ↦
          let found = term_of_shown y terms (λ e. some (is y ∙ e)) in
          let i = found.0 in
          let up : compare order term.integral y ≡ Less = stairs_less p order table place k no_row term.integral y stairs (omega arith) in_k here pivot in
          elim (cases_order i j) [
            | inl same ↦
                let e : term.integral ≡ y = ap (λ t. t.integral) read ∙ subst (λ n. (get_or terms n term).integral ≡ y) same (found.2 term) in
                let tied = tied_itself (compare-total order) y in
                let up_y : compare order y y ≡ Less = subst (λ z. compare order z y ≡ Less) e up in
                cc
            | inr (inl before) ↦ absurd (none i before k y term in_k pivot (found.2 term))
            | inr (inr later) ↦
                let down : compare own (get_or terms j term).integral (get_or terms i term).integral ≡ Greater = list.descend j i term later found.1 in
                let down_y : compare order term.integral y ≡ Greater =
                subst (λ o. compare o term.integral y ≡ Greater) same_order (subst (λ z. compare own term.integral z ≡ Greater) (found.2 term) (subst (λ t. compare own t.integral (get_or terms i term).integral ≡ Greater) (sym read) down)) in
                cc
          ]
    ]

-- one more term that is of no pivot
pub no_pivot_more : (order : Order) (table : List Row) (terms : List Term) (j : ℕ) (term : Term) (place : ℕ) → j < length terms → term ≡ get_or terms j term → IsPlaceFor order table term.integral place → NoPivotBefore order table terms j → NoPivotBefore order table terms (j + 1)
no_pivot_more order table terms j term place in_j read free none i l k y d in_k pivot e =
    elim (cases_order i j) [
      | inr (inl before) ↦ none i before k y d in_k pivot e
      | inr (inr after) ↦ absurd (omega arith)
      | inl same ↦
          let here : term.integral ≡ y = ap (λ t. t.integral) (read ∙ same_at terms j term d in_j) ∙ subst (λ n. (get_or terms n d).integral ≡ y) same e in
          let tied = tied_itself (compare-total order) y in
          let is_free : IsPlaceFor order table y place = subst (λ z. IsPlaceFor order table z place) here free in
          elim (cases_lt k place) [
            | inl l ↦ let apart = is_free.less k y l pivot in cc
            | inr u ↦ let apart = is_free.greater k y u in_k pivot in cc
          ]
    ]
