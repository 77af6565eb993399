-- What the tests of an event's rows compute is what the definitions say.
use Rattle.std.proofs.Common.{◌≡◌, ◌≢◌, ℕ, ◌<◌, ◌≤◌, ◌↔◌, Bool, true, false, not, IsTrue, eqb, List, ◌++◌, length, get_or, take, All, Contains, refl, sym, ap, subst, ◌∙◌, inl, inr}
use Rattle.std.proofs.lemmas.Bool.{false≢true, eqb-true, eq-eqb}
use Rattle.std.proofs.lemmas.List.Elements.{Contains-get_or, Contains-append_left, Contains-append_right, Contains-append_cases}
use Rattle.integral_index.specs.declared.Order.{Order}
use Rattle.integral_index.specs.declared.Unit.{Unit}
use Rattle.integral_index.specs.Integral.{Integral}
use Rattle.integral_index.specs.Order.{unit_of}
use Rattle.sparse_row.specs.declared.Term.{Term}
use Rattle.sparse_row.specs.Row.{Row, coefficient, Shows, IsRow, IsGreatest, IsPivot}
use Rattle.sparse_row.specs.Terms.{IsTermList, AllBelow, total_at, row_of}
use Rattle.sparse_row.proofs.TermLists.{Descends-from_pairs}
use Rattle.sparse_row.proofs.RowValues.{greatest_same, total_at-place, below_of_row, row_of_list}
use Rattle.sector_forward.specs.Elimination.{IsRuleOf}
use Rattle.sector_forward.proofs.Shown.{term_of_shown}
use Rattle.sector_forward.proofs.StepLemmas.{IsRow-in}
use Rattle.sector_machine.specs.Accepted.{ShowNothingNew}
use Rattle.reduction_core.proofs.CheckLemmas.{all_of_front}

-- ---- lists

-- what holds of one place holds of some of the list
pub some_found : {X : Type 0} (P : X → Type 0) (xs : List X) (n : ℕ) (x : X) → n < length xs → x ≡ get_or xs n x → P x → (y : X) × Contains xs y × P y
some_found P xs n x h read holds = (x, (n, h, sym read), holds)

-- what holds of each holds of one that the list has
pub each_of : {X : Type 0} (P : X → Type 0) (xs : List X) (x : X) → All P xs → Contains xs x → P x
each_of P xs x all has = subst P has.2 (all has.0 x has.1)

pub all_from_members : {X : Type 0} (P : X → Type 0) (xs : List X) → ((x : X) → Contains xs x → P x) → All P xs
all_from_members P xs each k d h = each (get_or xs k d) (Contains-get_or xs k d h)

-- what fails of each holds of none
pub none_found : {X : Type 0} (P : X → Type 0) (xs : List X) (n : ℕ) → length xs ≤ n → n ≤ length xs → All (λ x. ¬ (P x)) (take n xs) → ¬ ((y : X) × Contains xs y × P y)
none_found P xs n low high fails found =
    each_of (λ x. ¬ (P x)) xs found.0 (all_of_front (λ x. ¬ (P x)) xs n low high fails) found.1 found.2

-- ---- tests of numbers

pub differ_tested : (n m : ℕ) → n ≢ m → not (eqb n m) ≡ true
differ_tested n m differ =
    elim (eqb n m) as (λ b. eqb n m ≡ b → not b ≡ true) [
      | true ↦ λ e. absurd (differ (eqb-true n m e))
      | false ↦ λ _. refl
    ] refl

-- a test that fails, of what doesn't hold
pub refused : (answer : Bool) (P : Type 0) → answer ≡ false → ¬ P → IsTrue answer ↔ P
refused answer P fails not_P = (λ e. absurd (false≢true (sym fails ∙ e)), λ holds. absurd (not_P holds))

-- ---- pivots

module _ (order own : Order) (rule : Row) (greatest : Integral) (same : own ≡ order) (top : IsGreatest own rule greatest) where
  pivot_only : (x : Integral) → IsPivot order rule x → greatest ≡ x
  pivot_only x pivot = greatest_same order rule greatest x (subst (λ o. IsGreatest o rule greatest) same top) pivot.is_greatest

  pub pivot_there : (n : ℕ) → n ≡ coefficient rule greatest → n ≡ 1 → IsPivot order rule greatest
  pivot_there n value one = record { is_greatest = subst (λ o. IsGreatest o rule greatest) same top; one = sym value ∙ one }

  -- where the greatest coefficient isn't 1, there is no pivot, and all that is said of one holds
  pub without_pivot : (P : Integral → Type 0) (n : ℕ) → n ≡ coefficient rule greatest → n ≢ 1 → IsTrue (not (eqb n 1)) ↔ ((x : Integral) → IsPivot order rule x → P x)
  without_pivot P n value differ = (
    λ _ x pivot. absurd (differ (value ∙ ap (coefficient rule) (pivot_only x pivot) ∙ pivot.one)),
    λ _. differ_tested n 1 differ,
  )

  -- what is asked of the greatest integral, which is the pivot, is asked of the pivot
  pub with_pivot : (P : Integral → Type 0) (n : ℕ) (answer : Bool) → n ≡ coefficient rule greatest → n ≡ 1 → (IsTrue answer ↔ P greatest) → IsTrue answer ↔ ((x : Integral) → IsPivot order rule x → P x)
  with_pivot P n answer value one says = (
    λ holds x pivot. subst P (pivot_only x pivot) (says.0 holds),
    λ all. says.1 (all greatest (pivot_there n value one)),
  )

pub zero_tested : (row : Row) (x : Integral) (n : ℕ) → n ≡ coefficient row x → IsTrue (eqb n 0) ↔ (coefficient row x ≡ 0)
zero_tested row x n value = (λ test. sym value ∙ eqb-true n 0 test, λ e. eq-eqb n 0 (value ∙ e))

-- ---- rules

pub rule_tested : (p : ℕ) (order : Order) (unit : Unit) (row : Row) (greatest : Integral) (n : ℕ) → IsRow p order row → IsGreatest row.order row greatest → unit_of greatest ≡ unit → n ≡ coefficient row greatest → IsTrue (eqb n 1) ↔ IsRuleOf p order unit row
rule_tested p order unit row greatest n is top of_unit value = (
  λ test. record { is_row = is; pivot = (greatest, pivot_there order row.order row greatest is.ordered top n value (eqb-true n 1 test), of_unit) },
  λ rule. eq-eqb n 1 (value ∙ ap (coefficient row) (pivot_only order row.order row greatest is.ordered top rule.pivot.0 rule.pivot.1) ∙ rule.pivot.1.one),
)

pub rule_elsewhere : (p : ℕ) (order : Order) (unit : Unit) (row : Row) (greatest : Integral) → IsRow p order row → IsGreatest row.order row greatest → unit_of greatest ≢ unit → ¬ (IsRuleOf p order unit row)
rule_elsewhere p order unit row greatest is top other rule =
    other (ap unit_of (pivot_only order row.order row greatest is.ordered top rule.pivot.0 rule.pivot.1) ∙ rule.pivot.2)

-- ---- rows by their terms

module _ (order : Order) (row : Row) (terms : List Term) (list : IsTermList order terms) (value : (x : Integral) → coefficient row x ≡ total_at x terms) (P : Integral → Type 0) where
  -- what holds of the integral of each term holds of each integral that is shown
  pub shown_all : All (λ t. P t.integral) terms → (x : Integral) → Shows row x → P x
  shown_all all x shows =
      let found = term_of_shown x terms (λ e. shows (value x ∙ e)) in
      let d : Term = record { integral = x; coefficient = 0 } in
      subst P (found.2 d) (all found.0 d found.1)

  -- and the other way round, since each term shows its integral
  pub shown_each : ((x : Integral) → Shows row x → P x) → All (λ t. P t.integral) terms
  shown_each each k d h =
      each (get_or terms k d).integral
      (λ e. list.no_zero k d h (sym (total_at-place order terms k d h (Descends-from_pairs order terms list.descend)) ∙ sym (value (get_or terms k d).integral) ∙ e))

-- a row of its type is one of residues in an order where its terms are and that is its order
pub row_tested : (p : ℕ) (order : Order) (row : Row) (terms : List Term) (answer : Bool) → row.order ≡ order → 0 < p → row_of row.order terms ≡ row → IsTermList row.order terms → (IsTrue answer ↔ AllBelow p terms) → IsTrue answer ↔ IsRow p order row
row_tested p order row terms answer same positive whole list says = (
  λ test. IsRow-in p row.order order row same (subst (IsRow p row.order) whole (row_of_list p row.order terms positive list (says.0 test))),
  λ is. says.1 (below_of_row p row.order order terms row whole list is),
)

-- ---- two lists

pub nothing_new_joined : (others rows rest : List Row) → ShowNothingNew others rows → ShowNothingNew others rest → ShowNothingNew others (rows ++ rest)
nothing_new_joined others rows rest left right row x has shows =
    elim (Contains-append_cases rows rest row has) [ inl h ↦ left row x h shows | inr h ↦ right row x h shows ]

pub nothing_new_left : (others rows rest : List Row) → ShowNothingNew others (rows ++ rest) → ShowNothingNew others rows
nothing_new_left others rows rest all row x has shows = all row x (Contains-append_left rows rest row has) shows

pub nothing_new_right : (others rows rest : List Row) → ShowNothingNew others (rows ++ rest) → ShowNothingNew others rest
nothing_new_right others rows rest all row x has shows = all row x (Contains-append_right rows rest row has) shows
