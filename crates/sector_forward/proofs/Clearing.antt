-- The loop that clears all pivots of a table out of a row.
use Rattle.std.proofs.Common.{◌≡◌, ℕ, ◌+◌, ◌-◌, ◌*◌, ◌%◌, ◌<◌, ◌≤◌, List, length, get_or, refl, sym, ap, subst, ◌∙◌, inl, inr, arith, add-zero, zero-add, add_assoc}
use Rattle.std.specs.Ordering.{ordering_reverse}
use Rattle.std.specs.declared.cmp.Ordering.TheVariants.{Less}
use Rattle.std.proofs.Math.Nat.{add-mod, mod-add-mod, zero-mod, mul-zero, mod-eq_of_lt, add-mul-mod_self_right, mul-one, mul-add, mul_assoc, mul_comm}
use Rattle.std.proofs.lemmas.Bool.{cases_order, cases_lt}
use Rattle.std.proofs.lemmas.List.{length-map}
use Rattle.integral_index.specs.declared.Order.{Order}
use Rattle.integral_index.specs.Integral.{Integral}
use Rattle.integral_index.specs.Order.{compare}
use Rattle.integral_index.proofs.Orders.{compare-total}
use Rattle.sparse_row.specs.Row.{Row, coefficient, IsRow, IsPivot}
use Rattle.sparse_row.specs.Span.{combination}
use Rattle.sparse_row.proofs.Spans.{IsSpanned, IsSpanned-at, IsSpanned-add, IsSpanned-times, combination-nothing}
use Rattle.sparse_row.proofs.RowSpans.{functions, at-functions}
use Rattle.sector_forward.specs.Differences.{DifferBySpan}
use Rattle.sector_forward.specs.Steps.{HasPivot, IsStairs, IsPivotAt, ShowsNoneWithin, IsCleared, SameAbove}
use Rattle.sector_forward.proofs.Keys.{decided}
use Rattle.sector_forward.proofs.StepLemmas.{IsPivotAt-from, stairs_less}

-- ---- what a row shows above its pivot

pub none_above : (order : Order) (rule : Row) (x y : Integral) → IsPivot order rule x → compare order x y ≡ Less → coefficient rule y ≡ 0
none_above order rule x y pivot less =
    elim (decided (coefficient rule y)) [
      | inl e ↦ e
      | inr some ↦ absurd (pivot.is_greatest.greatest y some ((compare-total order).antisymm y x ∙ ap ordering_reverse less))
    ]

-- ---- differences by a span

pub differ_from : (p : ℕ) (table : List Row) (row other : Row) (g : Integral → ℕ) → IsSpanned p (functions table) g → ((y : Integral) → coefficient row y % p ≡ (coefficient other y + g y) % p) → DifferBySpan p table row other
differ_from p table row other g s is =
    record {
      multiplier = s.multiplier;
      is = λ y. is y ∙ add-mod (coefficient other y) (g y) p ∙ ap (λ u. (coefficient other y % p + u) % p) (s.is y) ∙ sym (add-mod (coefficient other y) (combination s.multiplier (functions table) y) p);
    }

pub differ_itself : (p : ℕ) (table : List Row) (row : Row) → DifferBySpan p table row row
differ_itself p table row =
    record { multiplier = λ _. 0; is = λ y. ap (λ u. u % p) (sym (ap (λ u. coefficient row y + u) (combination-nothing (functions table) y) ∙ add-zero _)) }

pub rule_spanned : (p : ℕ) (table : List Row) (place : ℕ) (rule : Row) → place < length table → rule ≡ get_or table place rule → IsSpanned p (functions table) (coefficient rule)
rule_spanned p table place rule h read =
    let within : place < length (functions table) = omega (arith, length-map table coefficient) in
    subst (λ f. IsSpanned p (functions table) f) (at-functions table place rule h ∙ ap coefficient (sym read)) (IsSpanned-at p (functions table) place within)

-- a multiple that was added is taken back by another multiple
back_out : (p a f r : ℕ) → 0 < p → a % p ≡ ((a + f * r) % p + (f * (p - 1)) * r) % p
back_out p a f r positive =
    let last : (f * (p - 1)) * r ≡ (f * r) * (p - 1) = mul_assoc f (p - 1) r ∙ ap (λ u. f * u) (mul_comm (p - 1) r) ∙ sym (mul_assoc f r (p - 1)) in
    let parts : (f * r) * (1 + (p - 1)) ≡ (f * r) * 1 + (f * r) * (p - 1) = mul-add (f * r) 1 (p - 1) in
    let whole : 1 + (p - 1) ≡ p = omega arith in
    let one : (f * r) * 1 ≡ f * r = mul-one (f * r) in
    let total : (f * r) * p ≡ f * r + (f * (p - 1)) * r = ap (λ u. (f * r) * u) (sym whole) ∙ parts ∙ ap (λ u. u + (f * r) * (p - 1)) one ∙ ap (λ u. f * r + u) (sym last) in
    sym (mod-add-mod (a + f * r) p ((f * (p - 1)) * r) ∙ ap (λ u. u % p) (add_assoc a (f * r) ((f * (p - 1)) * r) ∙ ap (λ u. a + u) (sym total)) ∙ add-mul-mod_self_right a (f * r) p)

pub differ_step : (p : ℕ) (order : Order) (table : List Row) (old row new rule : Row) (place : ℕ) → 0 < p → place < length table → rule ≡ get_or table place rule → DifferBySpan p table old row → IsCleared p order rule row new → DifferBySpan p table old new
differ_step p order table old row new rule place positive h read differ cleared =
    let f = cleared.factor in
    let fs : List (Integral → ℕ) = functions table in
    let before : Integral → ℕ = combination differ.multiplier fs in
    let undone : Integral → ℕ = λ y. (f * (p - 1)) * coefficient rule y in
    let spanned : IsSpanned p fs (λ y. undone y + before y) =
    IsSpanned-add p fs undone before (IsSpanned-times p fs (f * (p - 1)) (coefficient rule) (rule_spanned p table place rule h read)) (record { multiplier = differ.multiplier; is = λ _. refl }) in
    differ_from p table old new (λ y. undone y + before y) spanned
    (λ y.
    let taken : coefficient row y % p ≡ (coefficient new y + undone y) % p =
    back_out p (coefficient row y) f (coefficient rule y) positive ∙ ap (λ u. (u + undone y) % p) (sym (cleared.is y)) in
    differ.is y ∙ sym (mod-add-mod (coefficient row y) p (before y)) ∙ ap (λ u. (u + before y) % p) taken ∙ mod-add-mod (coefficient new y + undone y) p (before y)
    ∙ ap (λ u. u % p) (add_assoc (coefficient new y) (undone y) (before y)))

-- ---- the loop

-- the pivots from the bound on are cleared
pub record IsClearing (p : ℕ) (order : Order) (table : List Row) (bound : ℕ) (old row : Row) : Type 0 where
  pub row_is : IsRow p order row
  pub within : bound ≤ length table
  pub none : ShowsNoneWithin order table bound (length table) row
  pub differ : DifferBySpan p table old row
  pub above : SameAbove order table old row

pub IsClearing-start : (p : ℕ) (order : Order) (table : List Row) (row : Row) → IsRow p order row → IsClearing p order table (length table) row row
IsClearing-start p order table row is =
    record { row_is = is; within = omega arith; none = λ k y l u pivot. absurd (omega arith); differ = differ_itself p table row; above = λ x _. refl }

pub IsClearing-step : (p : ℕ) (order : Order) (table : List Row) (bound place : ℕ) (old row new rule : Row) → IsStairs p order table → place < bound → rule ≡ get_or table place rule → ShowsNoneWithin order table (place + 1) bound row → IsClearing p order table bound old row → IsRow p order new → IsCleared p order rule row new → IsClearing p order table place old new
IsClearing-step p order table bound place old row new rule stairs l read none c is cleared =
    let in_place : place < length table = omega (arith, c.within) in
    let z = (stairs.pivots place rule in_place).0 in
    let top_read = (stairs.pivots place rule in_place).1 in
    let top : IsPivot order rule z = subst (λ r. IsPivot order r z) (sym read) top_read in
    let there : IsPivotAt order table place z = IsPivotAt-from order table place rule z in_place top_read in
    let positive : 0 < p = omega (arith, c.row_is.below z) in
    let kept_none : (y : Integral) → coefficient row y ≡ 0 → coefficient rule y ≡ 0 → coefficient new y ≡ 0 =
    λ y a b. cleared.is y ∙ ap (λ u. (u + cleared.factor * coefficient rule y) % p) a ∙ ap (λ u. (0 + cleared.factor * u) % p) b ∙ ap (λ u. u % p) (zero-add _ ∙ mul-zero cleared.factor) ∙ zero-mod p in
    record {
      row_is = is;
      within = omega arith;
      none = λ k y low in_k pivot.
          elim (cases_order k place) [
            | inl same ↦ cleared.gone y (subst (λ r. IsPivot order r y) (sym read) (subst (λ n. IsPivotAt order table n y) same pivot rule))
            | inr (inl before) ↦ absurd (omega arith)
            | inr (inr after) ↦
                let rule_none = none_above order rule z y top (stairs_less p order table place k rule z y stairs after in_k there pivot) in
                elim (cases_lt k bound) [ inl inside ↦ kept_none y (none k y (omega arith) inside pivot) rule_none | inr outside ↦ kept_none y (c.none k y outside in_k pivot) rule_none ]
          ];
      differ = differ_step p order table old row new rule place positive in_place read c.differ cleared;
      above = λ x over.
          let rule_none : coefficient rule x ≡ 0 = none_above order rule z x top (over place z in_place there) in
          cleared.is x ∙ ap (λ u. (coefficient row x + cleared.factor * u) % p) rule_none ∙ ap (λ u. (coefficient row x + u) % p) (mul-zero cleared.factor) ∙ ap (λ u. u % p) (add-zero _) ∙ mod-eq_of_lt (c.row_is.below x) ∙ c.above x over;
    }

module _ (p : ℕ) (order : Order) (table : List Row) (bound place : ℕ) (old row rule : Row) (stairs : IsStairs p order table) (c : IsClearing p order table bound old row) (l : place < bound) (read : rule ≡ get_or table place rule) where
  pub rule_of_read : IsRow p order rule
  rule_of_read = subst (IsRow p order) (sym read) (stairs.rows place rule (omega (arith, c.within)))

  pub pivot_of_rule : HasPivot order rule
  pivot_of_rule = subst (HasPivot order) (sym read) (stairs.pivots place rule (omega (arith, c.within)))

-- where no pivot before the bound is shown either, none is
pub none_left : (p : ℕ) (order : Order) (table : List Row) (bound : ℕ) (old row : Row) → IsClearing p order table bound old row → ShowsNoneWithin order table 0 bound row → ShowsNoneWithin order table 0 (length table) row
none_left p order table bound old row c before k y low in_k pivot =
    elim (cases_lt k bound) [ inl inside ↦ before k y (omega arith) inside pivot | inr outside ↦ c.none k y outside in_k pivot ]
