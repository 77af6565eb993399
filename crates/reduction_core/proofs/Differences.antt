-- A normal form is a row of residues, equals its integral where the rows of the table are 0, and is the only such row
-- that shows no pivot.
use Rattle.std.proofs.Common.{◌≡◌, ◌≢◌, ℕ, zero, suc, ◌+◌, ◌-◌, ◌%◌, ◌<◌, Bool, true, false, cond, List, length, get_or, All, Option, Some, None, unwrap_or, refl, sym, ap, subst, ◌∙◌, inl, inr, arith, add-zero, zero-add, add_assoc}
use Rattle.std.specs.FinMap as map_of
use Rattle.std.specs.Option.{option_map}
use Rattle.std.proofs.Math.Nat.{suc-ne-zero, zero-mod, mod_self, mod-lt, mod-eq_of_lt, add-mod, mod-add-mod, add-mod-mod}
use Rattle.std.proofs.lemmas.List.{length-map}
use Rattle.std.proofs.lemmas.List.Elements.{All-contains, Contains-get_or}
use Rattle.integral_index.specs.declared.Order.{Order}
use Rattle.integral_index.specs.Integral.{Integral, sector_of}
use Rattle.integral_index.specs.Order.{by_fields, compare}
use Rattle.integral_index.specs.ZeroSectors.{is_zero_sector}
use Rattle.integral_index.proofs.Orders.{compare-total, compare-IsAntisymmetric}
use Rattle.sparse_row.specs.Row.{Row, coefficient, IsRow, IsPivot}
use Rattle.sparse_row.specs.Span.{combination}
use Rattle.sparse_row.specs.ReducedList.{IsEchelon}
use Rattle.sparse_row.proofs.Spans.{at, IsSpanned-at, combination-nothing}
use Rattle.sparse_row.proofs.RowSpans.{functions, no_row, at-functions}
use Rattle.reduction_core.specs.NormalForm.{empty_row, unit_row, solved, by_rule, rule_for, normal_form}
use Rattle.reduction_core.specs.Laws.{ShowsNoPivot}
use Rattle.sector_forward.specs.Differences.{DifferBySpan}
use Rattle.reduction_core.proofs.Law.{IsTop, known_by_pivots}
use Rattle.sparse_row.proofs.RowValues.{same_row}
use Rattle.reduction_core.proofs.OneTable.{IsStair-from_echelon, pivot_from_top}
use Rattle.reduction_core.proofs.Pivots.{rule_is_pivot}
use Rattle.sector_forward.proofs.Keys.{same_key, key_cases}
use Rattle.reduction_core.proofs.NormalForms.{coefficient-empty_row, coefficient-unit_row, coefficient-solved, get-unit_row, get-solved, no_pivot_shown}

-- ---- a row of residues

opposite_of : (p : ℕ) (o : Option ℕ) (b : Bool) → o ≢ Some 0 → unwrap_or o 0 < p → option_map (λ c. (p - c) % p) (cond b None o) ≢ Some 0
opposite_of p None true no_zero below = λ e. cc
opposite_of p None false no_zero below = λ e. cc
opposite_of p (Some c) true no_zero below = λ e. cc
opposite_of p (Some c) false no_zero below =
    λ e.
    let gone : (p - c) % p ≡ 0 = ap (λ o. unwrap_or o 0) e in
    let c_some : c ≢ 0 = λ z. no_zero (ap Some z) in
    let small : (p - c) % p ≡ p - c = mod-eq_of_lt (omega arith) in
    absurd (omega arith)

pub IsRow-empty : (p : ℕ) (order : Order) → 1 < p → IsRow p order (empty_row order)
IsRow-empty p order large =
    record {
      ordered = refl;
      below = λ x. subst (λ n. n < p) (sym (coefficient-empty_row order x)) (omega arith);
      no_zero = λ x e. let none = map_of.get-empty {X = ℕ} by_fields x in cc;
    }

pub IsRow-unit : (p : ℕ) (order : Order) (x : Integral) → 1 < p → IsRow p order (unit_row order x)
IsRow-unit p order x large =
    record {
      ordered = refl;
      below = λ y. subst (λ n. n < p) (sym (coefficient-unit_row order x y)) (elim (same_key y x) as (λ b. cond b 1 0 < p) [ true ↦ large | false ↦ omega arith ]);
      no_zero = λ y e. not_zero (same_key y x) (sym (get-unit_row order x y) ∙ e);
    }
  where
    not_zero : (b : Bool) → ◌≢◌ {A = Option ℕ} (cond b (Some 1) None) (Some 0)
    not_zero true e = cc
    not_zero false e = cc

pub IsRow-solved : (p : ℕ) (order : Order) (row : Row) (x : Integral) → 1 < p → IsRow p order row → IsRow p order (solved p row x)
IsRow-solved p order row x large is =
    record {
      ordered = is.ordered;
      below = λ y. subst (λ n. n < p) (sym (coefficient-solved p row x y)) (elim (same_key y x) as (λ b. cond b 0 ((p - coefficient row y) % p) < p) [ true ↦ omega arith | false ↦ mod-lt _ (omega arith) ]);
      no_zero = λ y e. opposite_of p (map_of.get row.terms y) (same_key y x) (is.no_zero y) (is.below y) (sym (get-solved p row x y) ∙ e);
    }

pub normal_form_is_row : (p : ℕ) (order : Order) (zeros : List ℕ) (table : List Row) (x : Integral) → 1 < p → All (IsRow p order) table → IsRow p order (normal_form p order zeros table x)
normal_form_is_row p order zeros table x large rows =
    elim (is_zero_sector zeros (sector_of x.indices)) as (λ b. IsRow p order (cond b (empty_row order) (by_rule p order x (rule_for order table x)))) [
      | true ↦ IsRow-empty p order large
      | false ↦ elim (rule_for order table x) as (λ o. rule_for order table x ≡ o → IsRow p order (by_rule p order x o)) [
        | None ↦ λ _. IsRow-unit p order x large
        | Some rule ↦ λ found. IsRow-solved p order rule x large (All-contains (IsRow p order) table rule rows (rule_is_pivot order table x rule found).0)
      ] refl
    ]

-- ---- what an integral equals

-- a number and its opposite
back : (p c : ℕ) → c < p → 0 % p ≡ ((p - c) % p + c) % p
back p c small =
    let whole : p - c + c ≡ p = omega arith in
    zero-mod p ∙ sym (mod-add-mod (p - c) p c ∙ ap (λ u. u % p) whole ∙ mod_self p)

-- an integral is its rule, solved, up to the rule itself
rule_differs : (p : ℕ) (order : Order) (rule : Row) (x y : Integral) → IsRow p order rule → IsPivot order rule x → coefficient (unit_row order x) y % p ≡ (coefficient (solved p rule x) y + coefficient rule y) % p
rule_differs p order rule x y is pivot =
    ap (λ u. u % p) (coefficient-unit_row order x y)
    ∙ elim (key_cases y x) as (λ _. cond (same_key y x) 1 0 % p ≡ (cond (same_key y x) 0 ((p - coefficient rule y) % p) + coefficient rule y) % p) [
      | inl same ↦
          let one : coefficient rule y ≡ 1 = ap (coefficient rule) same.1 ∙ pivot.one in
          rw same.0 (ap (λ u. u % p) (sym one ∙ sym (zero-add _)))
      | inr apart ↦ rw apart.0 (back p (coefficient rule y) (is.below y))
    ]
    ∙ ap (λ u. (u + coefficient rule y) % p) (sym (coefficient-solved p rule x y))

pub normal_form_is_equal : (p : ℕ) (order : Order) (zeros : List ℕ) (table : List Row) (x : Integral) → IsEchelon p order table → is_zero_sector zeros (sector_of x.indices) ≡ false → DifferBySpan p table (unit_row order x) (normal_form p order zeros table x)
normal_form_is_equal p order zeros table x e nonzero =
    subst (λ b. DifferBySpan p table (unit_row order x) (cond b (empty_row order) (by_rule p order x (rule_for order table x)))) (sym nonzero)
    (elim (rule_for order table x) as (λ o. rule_for order table x ≡ o → DifferBySpan p table (unit_row order x) (by_rule p order x o)) [
      | None ↦ λ _. record { multiplier = λ _. 0; is = λ y. ap (λ u. u % p) (sym (ap (λ u. coefficient (unit_row order x) y + u) (combination-nothing (functions table) y) ∙ add-zero _)) }
      | Some rule ↦ λ found.
          let is = rule_is_pivot order table x rule found in
          let member = is.0 in
          let k = member.0 in
          let within : k < length (functions table) = omega (arith, length-map table coefficient, member.1) in
          let s = IsSpanned-at p (functions table) k within in
          let row = All-contains (IsRow p order) table rule e.rows member in
          record {
            multiplier = s.multiplier;
            is = λ y.
                let here : coefficient rule y ≡ at (functions table) k y = ap (λ r. coefficient r y) (sym member.2) ∙ sym (ap (λ f. f y) (at-functions table k rule member.1)) in
                rule_differs p order rule x y row is.1 ∙ add-mod (coefficient (solved p rule x) y) (coefficient rule y) p
                ∙ ap (λ u. (coefficient (solved p rule x) y % p + u) % p) (ap (λ u. u % p) here ∙ s.is y) ∙ sym (add-mod (coefficient (solved p rule x) y) (combination s.multiplier (functions table) y) p);
          }
    ] refl)

-- what is added to both sides may be left out
pub cancel : (p a b c : ℕ) → 0 < p → (a + c) % p ≡ (b + c) % p → a % p ≡ b % p
cancel p a b c large same =
    let t : ℕ = p - c % p in
    let small : c % p < p = mod-lt c large in
    let whole : c % p + t ≡ p = omega arith in
    let gone : (c + t) % p ≡ 0 = sym (mod-add-mod c p t) ∙ ap (λ u. u % p) whole ∙ mod_self p in
    let without : (n : ℕ) → ((n + c) % p + t) % p ≡ n % p = λ n. mod-add-mod (n + c) p t ∙ ap (λ u. u % p) (add_assoc n c t) ∙ sym (add-mod-mod n (c + t) p) ∙ ap (λ u. (n + u) % p) gone ∙ ap (λ u. u % p) (add-zero n) in
    sym (without a) ∙ ap (λ u. (u + t) % p) same ∙ without b

none_shown : (n : ℕ) → ¬ (n ≢ 0) → n ≡ 0
none_shown zero h = refl
none_shown (suc n) h = absurd (h (suc-ne-zero n))

pub normal_form_is_only : (p : ℕ) (order : Order) (zeros : List ℕ) (table : List Row) (x : Integral) (row : Row) → 1 < p → IsEchelon p order table → is_zero_sector zeros (sector_of x.indices) ≡ false → IsRow p order row → ShowsNoPivot order table row → DifferBySpan p table (unit_row order x) row → row ≡ normal_form p order zeros table x
normal_form_is_only p order zeros table x row large e nonzero is_row no_pivot differ =
    let form : Row = normal_form p order zeros table x in
    let form_row : IsRow p order form = normal_form_is_row p order zeros table x large e.rows in
    let form_differs : DifferBySpan p table (unit_row order x) form = normal_form_is_equal p order zeros table x e nonzero in
    let fs : List (Integral → ℕ) = functions table in
    let given : Integral → ℕ = combination differ.multiplier fs in
    let made : Integral → ℕ = combination form_differs.multiplier fs in
    let sums : (y : Integral) → (coefficient row y + given y) % p ≡ (coefficient form y + made y) % p = λ y. sym (differ.is y) ∙ form_differs.is y in
    let at_pivots : (j : ℕ) (y : Integral) → j < length fs → IsTop (compare order) (at fs j) y → given y % p ≡ made y % p =
    λ j y in_j top.
    let within : j < length table = omega (arith, length-map table coefficient) in
    let pivot : IsPivot order (get_or table j no_row) y = pivot_from_top p order (get_or table j no_row) y (subst (λ f. IsTop (compare order) f y) (at-functions table j no_row within) top) in
    let member = Contains-get_or table j no_row within in
    let row_none : coefficient row y ≡ 0 = none_shown _ (no_pivot (get_or table j no_row) y member pivot) in
    let form_none : coefficient form y ≡ 0 = none_shown _ (no_pivot_shown p order zeros table x e (get_or table j no_row) y member pivot) in
    ap (λ u. u % p) (sym (ap (λ u. u + given y) row_none ∙ zero-add _)) ∙ sums y ∙ ap (λ u. u % p) (ap (λ u. u + made y) form_none ∙ zero-add _) in
    let everywhere : (y : Integral) → given y % p ≡ made y % p =
    known_by_pivots (compare order) (compare-total order) (compare-IsAntisymmetric order) p fs (IsStair-from_echelon p order table e) given made
    (record { multiplier = differ.multiplier; is = λ _. refl }) (record { multiplier = form_differs.multiplier; is = λ _. refl }) at_pivots in
    let same : (y : Integral) → coefficient row y ≡ coefficient form y =
    λ y.
    let aligned : (coefficient row y + made y) % p ≡ (coefficient form y + made y) % p =
    add-mod (coefficient row y) (made y) p ∙ ap (λ u. (coefficient row y % p + u) % p) (sym (everywhere y)) ∙ sym (add-mod (coefficient row y) (given y) p) ∙ sums y in
    sym (mod-eq_of_lt (is_row.below y)) ∙ cancel p (coefficient row y) (coefficient form y) (made y) (omega arith) aligned ∙ mod-eq_of_lt (form_row.below y) in
    same_row p order row form is_row form_row same
