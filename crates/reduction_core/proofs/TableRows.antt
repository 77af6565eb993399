-- The rows that `normal_form` answers are those of the definition.
use Rattle.std.proofs.Common.{◌≡◌, ◌≢◌, ℕ, ◌+◌, ◌-◌, ◌*◌, ◌%◌, ◌<◌, true, false, cond, List, length, get_or, Option, Some, None, refl, sym, ap, subst, ◌∙◌, inl, inr, arith, zero-add}
use Rattle.std.proofs.Math.Nat.{mod-eq_of_lt, mod_self, mul-one, mul_comm, mul-add, mul-mod_left}
use Rattle.std.proofs.lemmas.Bool.{cases_order, cases_lt}
use Rattle.std.proofs.lemmas.Cmp.{tied_itself}
use Rattle.std.proofs.lemmas.List.Elements.{Contains-get_or}
use Rattle.integral_index.specs.declared.Order.{Order}
use Rattle.integral_index.specs.Integral.{Integral, sector_of}
use Rattle.integral_index.specs.ZeroSectors.{is_zero_sector}
use Rattle.integral_index.proofs.Orders.{compare-total}
use Rattle.sparse_row.specs.Row.{Row, coefficient, IsRow, IsEmpty, IsPivot}
use Rattle.sparse_row.specs.ReducedList.{IsEchelon}
use Rattle.reduction_core.specs.NormalForm.{empty_row, unit_row, solved, by_rule, rule_for, normal_form}
use Rattle.sector_forward.specs.Steps.{IsStairs, IsPivotAt, IsPlaceFor}
use Rattle.sparse_row.proofs.RowValues.{same_row}
use Rattle.reduction_core.proofs.Pivots.{rule_is_pivot, no_rule_no_pivot}
use Rattle.sector_forward.proofs.Keys.{same_key, key_cases}
use Rattle.reduction_core.proofs.NormalForms.{coefficient-empty_row, coefficient-unit_row, coefficient-solved}
use Rattle.reduction_core.proofs.Differences.{IsRow-empty, IsRow-unit, IsRow-solved, cancel}
use Rattle.sector_forward.proofs.StepLemmas.{IsPivotAt-from, stairs_less, same_at}
use Rattle.sector_forward.proofs.Backing.{IsStairs-from_echelon}

-- ---- the rows that are made

pub empty_made : (p : ℕ) (order : Order) (row : Row) → 1 < p → IsRow p order row → IsEmpty row → row ≡ empty_row order
empty_made p order row large is empty =
    same_row p order row (empty_row order) is (IsRow-empty p order large) (λ y. empty y ∙ sym (coefficient-empty_row order y))

pub unit_made : (p : ℕ) (order : Order) (x : Integral) (start row : Row) → 1 < p → IsEmpty start → IsRow p order row → coefficient row x ≡ (coefficient start x + 1) % p → ((y : Integral) → y ≢ x → coefficient row y ≡ coefficient start y) → row ≡ unit_row order x
unit_made p order x start row large empty is sum others =
    same_row p order row (unit_row order x) is (IsRow-unit p order x large)
    (λ y.
    elim (key_cases y x) [
      | inl same ↦
          ap (coefficient row) same.1 ∙ sum ∙ ap (λ u. (u + 1) % p) (empty x) ∙ ap (λ u. u % p) (zero-add 1) ∙ mod-eq_of_lt large ∙ sym (coefficient-unit_row order x y ∙ ap (λ b. cond b 1 0) same.0)
      | inr apart ↦ others y apart.1 ∙ empty y ∙ sym (coefficient-unit_row order x y ∙ ap (λ b. cond b 1 0) apart.0)
    ])

-- the multiple by p - 1 is the opposite
opposite_multiple : (p r : ℕ) → 1 < p → r < p → ((p - 1) * r) % p ≡ (p - r) % p
opposite_multiple p r large small =
    let one : (p - 1) + 1 ≡ p = omega arith in
    let product : (p - 1) * r + r ≡ r * p = ap (λ u. u + r) (mul_comm (p - 1) r) ∙ sym (ap (λ u. r * (p - 1) + u) (mul-one r)) ∙ sym (mul-add r (p - 1) 1) ∙ ap (λ u. r * u) one in
    let whole : p - r + r ≡ p = omega arith in
    cancel p ((p - 1) * r) (p - r) r (omega arith) (ap (λ u. u % p) product ∙ mul-mod_left r p ∙ sym (ap (λ u. u % p) whole ∙ mod_self p))

pub solved_made : (p : ℕ) (order : Order) (x : Integral) (rule start row : Row) (factor : ℕ) → 1 < p → factor ≡ p - 1 → IsRow p order rule → IsPivot order rule x → start ≡ unit_row order x → IsRow p order row → ((y : Integral) → coefficient row y ≡ (coefficient start y + factor * coefficient rule y) % p) → row ≡ solved p rule x
solved_made p order x rule start row factor large is_factor is_rule pivot is_start is sum =
    same_row p order row (solved p rule x) is (IsRow-solved p order rule x large is_rule)
    (λ y.
    let begun : coefficient start y ≡ cond (same_key y x) 1 0 = ap (λ r. coefficient r y) is_start ∙ coefficient-unit_row order x y in
    let all : coefficient row y ≡ (cond (same_key y x) 1 0 + (p - 1) * coefficient rule y) % p = sum y ∙ ap (λ u. (u + factor * coefficient rule y) % p) begun ∙ ap (λ u. (cond (same_key y x) 1 0 + u * coefficient rule y) % p) is_factor in
    elim (key_cases y x) [
      | inl same ↦
          let one : coefficient rule y ≡ 1 = ap (coefficient rule) same.1 ∙ pivot.one in
          let whole : 1 + (p - 1) * 1 ≡ p = ap (λ u. 1 + u) (mul-one (p - 1)) ∙ (let e : 1 + (p - 1) ≡ p = omega arith in e) in
          all ∙ ap (λ b. (cond b 1 0 + (p - 1) * coefficient rule y) % p) same.0 ∙ ap (λ u. (1 + (p - 1) * u) % p) one ∙ ap (λ u. u % p) whole ∙ mod_self p
          ∙ sym (coefficient-solved p rule x y ∙ ap (λ b. cond b 0 ((p - coefficient rule y) % p)) same.0)
      | inr apart ↦
          all ∙ ap (λ b. (cond b 1 0 + (p - 1) * coefficient rule y) % p) apart.0 ∙ ap (λ u. u % p) (zero-add _) ∙ opposite_multiple p (coefficient rule y) large (is_rule.below y)
          ∙ sym (coefficient-solved p rule x y ∙ ap (λ b. cond b 0 ((p - coefficient rule y) % p)) apart.0)
    ])

-- ---- which rule is found

-- a pivot has one row
same_place : (p : ℕ) (order : Order) (table : List Row) (x : Integral) (i j : ℕ) → IsStairs p order table → i < length table → j < length table → IsPivotAt order table i x → IsPivotAt order table j x → (d : Row) → i ≡ j
same_place p order table x i j stairs in_i in_j s t d =
    let tied = tied_itself (compare-total order) x in
    elim (cases_order i j) [
      | inl e ↦ e
      | inr (inl l) ↦ let less = stairs_less p order table i j d x x stairs l in_j s t in cc
      | inr (inr l) ↦ let less = stairs_less p order table j i d x x stairs l in_i t s in cc
    ]

pub rule_found : (p : ℕ) (order : Order) (table : List Row) (x : Integral) (place : ℕ) (rule : Row) → IsEchelon p order table → place < length table → IsPivotAt order table place x → rule ≡ get_or table place rule → rule_for order table x ≡ Some rule
rule_found p order table x place rule e h here read =
    elim (rule_for order table x) as (λ o. rule_for order table x ≡ o → o ≡ Some rule) [
      | None ↦ λ none. absurd (no_rule_no_pivot p order table x e.rows none (get_or table place rule) (Contains-get_or table place rule h) (here rule))
      | Some other ↦ λ found.
          let is = rule_is_pivot order table x other found in
          let k = is.0.0 in
          let in_k : k < length table = is.0.1 in
          let pivot : IsPivotAt order table k x = IsPivotAt-from order table k other x in_k (subst (λ r. IsPivot order r x) (sym is.0.2) is.1) in
          let one : k ≡ place = same_place p order table x k place (IsStairs-from_echelon p order table e) in_k h pivot here rule in
          ap Some (sym is.0.2 ∙ ap (λ n. get_or table n other) one ∙ same_at table place other rule h ∙ sym read)
    ] refl

pub rule_missing : (p : ℕ) (order : Order) (table : List Row) (x : Integral) (place : ℕ) → IsPlaceFor order table x place → rule_for order table x ≡ None
rule_missing p order table x place free =
    elim (rule_for order table x) as (λ o. rule_for order table x ≡ o → o ≡ None) [
      | None ↦ λ _. refl
      | Some other ↦ λ found.
          let is = rule_is_pivot order table x other found in
          let k = is.0.0 in
          let pivot : IsPivotAt order table k x = IsPivotAt-from order table k other x is.0.1 (subst (λ r. IsPivot order r x) (sym is.0.2) is.1) in
          let tied = tied_itself (compare-total order) x in
          elim (cases_lt k place) [
            | inl l ↦ let less = free.less k x l pivot in absurd (cc)
            | inr u ↦ let greater = free.greater k x u is.0.1 pivot in absurd (cc)
          ]
    ] refl

-- ---- the three cases

pub form_of_zero : (p : ℕ) (order : Order) (zeros : List ℕ) (table : List Row) (x : Integral) → is_zero_sector zeros (sector_of x.indices) ≡ true → normal_form p order zeros table x ≡ empty_row order
form_of_zero p order zeros table x zero_sector = ap (λ b. cond b (empty_row order) (by_rule p order x (rule_for order table x))) zero_sector

pub form_of_rule : (p : ℕ) (order : Order) (zeros : List ℕ) (table : List Row) (x : Integral) (o : Option Row) → is_zero_sector zeros (sector_of x.indices) ≡ false → rule_for order table x ≡ o → normal_form p order zeros table x ≡ by_rule p order x o
form_of_rule p order zeros table x o nonzero found =
    ap (λ b. cond b (empty_row order) (by_rule p order x (rule_for order table x))) nonzero ∙ ap (by_rule p order x) found

pub form_of_pivot : (p : ℕ) (order : Order) (zeros : List ℕ) (table : List Row) (x : Integral) (place : ℕ) (rule : Row) → is_zero_sector zeros (sector_of x.indices) ≡ false → IsEchelon p order table → place < length table → IsPivotAt order table place x → rule ≡ get_or table place rule → normal_form p order zeros table x ≡ solved p rule x
form_of_pivot p order zeros table x place rule nonzero e h here read =
    form_of_rule p order zeros table x (Some rule) nonzero (rule_found p order table x place rule e h here read)

pub form_of_other : (p : ℕ) (order : Order) (zeros : List ℕ) (table : List Row) (x : Integral) (place : ℕ) → is_zero_sector zeros (sector_of x.indices) ≡ false → IsPlaceFor order table x place → normal_form p order zeros table x ≡ unit_row order x
form_of_other p order zeros table x place nonzero free = form_of_rule p order zeros table x None nonzero (rule_missing p order table x place free)
