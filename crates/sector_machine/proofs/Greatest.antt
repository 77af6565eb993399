-- The greatest integral of a row, and the tests by which rows are sorted.
use Rattle.std.proofs.Common.{◌≡◌, ◌≢◌, ℕ, true, not, ◌&&◌, eqb, Option, None, Some, is_some, unwrap_or, List, [], ◌∷◌, Contains, refl, sym, ap, subst, ◌∙◌, ◌⊎◌, inl, inr, arith}
use Rattle.std.specs.FinMap as map
use Rattle.std.specs.List.{list_any}
use Rattle.std.specs.Ordering.{is_eq, is_gt, eq_by_cmp, ordering_reverse}
use Rattle.std.specs.declared.cmp.Ordering.{Ordering}
use Rattle.std.specs.declared.cmp.Ordering.TheVariants.{Less, Equal, Greater}
use Rattle.std.proofs.lemmas.Bool.{false≢true, and_parts, and_from, not-true, not_from_false, ne_eqb, eqb-false}
use Rattle.std.proofs.lemmas.Cmp.{tied_itself, eq_by_cmp_equiv}
use Rattle.std.proofs.lemmas.Map.Views.{list_any-from_Contains, Contains-from_any}
use Rattle.integral_index.specs.Order.{by_fields, compare, unit_of, unit_compare}
use Rattle.integral_index.specs.Integral.{Integral}
use Rattle.integral_index.specs.declared.Unit.{Unit}
use Rattle.integral_index.specs.declared.Order.{Order}
use Rattle.integral_index.proofs.Orders.{by_fields-total, by_fields-IsAntisymmetric, compare-total, compare-IsAntisymmetric, compare-of_units}
use Rattle.sparse_row.specs.Row.{Row, coefficient, Shows, IsRow, IsEmpty, IsGreatest}
use Rattle.sector_forward.specs.Elimination.{IsShownBySome}
use Rattle.sector_forward.proofs.Members.{Contains-cons_cases, Contains-here, Contains-there}
use Rattle.sector_forward.proofs.Keys.{decided}
use Rattle.back_substitute.proofs.Multipliers.{not_above}
use Rattle.sector_machine.specs.State.{is_greatest, has_greatest_in}
use Rattle.sector_machine.specs.Machine.{HasGreatestIn}
use Rattle.sector_machine.specs.Tasks.{shows_pivot_of}
use Rattle.sector_machine.proofs.Lists.{some_passes, any_passes, each_passes, all_pass}
use Rattle.sector_machine.proofs.Units.{tied_unit, unit_from_tied}

-- ---- a row shows just its keys

tied : (r : Ordering) → is_eq r ≡ true → r ≡ Equal
tied Less h = absurd (false≢true h)
tied Equal h = refl
tied Greater h = absurd (false≢true h)

there : (o : Option ℕ) → unwrap_or o 0 ≢ 0 → is_some o ≡ true
there None h = absurd (h refl)
there (Some n) h = refl

not_nothing : (o : Option ℕ) → is_some o ≡ true → o ≢ Some 0 → unwrap_or o 0 ≢ 0
not_nothing None h n e = false≢true h
not_nothing (Some m) h n e = n (ap Some e)

pub key_of_shown : (row : Row) (y : Integral) → Shows row y → Contains (map.keys row.terms) y
key_of_shown row y shows =
    Contains-from_any {eq = eq_by_cmp by_fields} (λ a b e. by_fields-IsAntisymmetric a b (tied (by_fields a b) e)) y (map.keys row.terms) (sym (map.contains_key-keys row.terms y) ∙ there (map.get row.terms y) shows)

pub shown_of_key : (p : ℕ) (order : Order) (row : Row) (y : Integral) → IsRow p order row → Contains (map.keys row.terms) y → Shows row y
shown_of_key p order row y is key =
    not_nothing (map.get row.terms y) (map.contains_key-keys row.terms y ∙ list_any-from_Contains (eq_by_cmp_equiv by_fields-total) y (map.keys row.terms) key) (is.no_zero y)

-- ---- the tests

is_greater : (r : Ordering) → not (is_gt r) ≡ true → r ≢ Greater
is_greater Less h e = absurd (cc)
is_greater Equal h e = absurd (cc)
is_greater Greater h e = false≢true h

not_greater : (r : Ordering) → r ≢ Greater → not (is_gt r) ≡ true
not_greater Less h = refl
not_greater Equal h = refl
not_greater Greater h = absurd (h refl)

IsGreatest-from_test : (p : ℕ) (order : Order) (row : Row) (x : Integral) → IsRow p order row → Contains (map.keys row.terms) x → is_greatest order row x ≡ true → IsGreatest order row x
IsGreatest-from_test p order row x is key h =
    record {
      shown = shown_of_key p order row x is key;
      greatest = λ y shows. is_greater (compare order y x) (each_passes (λ z. not (is_gt (compare order z x))) (map.keys row.terms) h y (key_of_shown row y shows));
    }

test-from_IsGreatest : (p : ℕ) (order : Order) (row : Row) (x : Integral) → IsRow p order row → IsGreatest order row x → is_greatest order row x ≡ true
test-from_IsGreatest p order row x is top =
    all_pass (λ z. not (is_gt (compare order z x))) (map.keys row.terms) (λ y key. not_greater (compare order y x) (top.greatest y (shown_of_key p order row y is key)))

pub HasGreatestIn-from_test : (p : ℕ) (order : Order) (unit : Unit) (row : Row) → IsRow p order row → has_greatest_in order unit row ≡ true → HasGreatestIn order unit row
HasGreatestIn-from_test p order unit row is h =
    let found = some_passes (λ x. eq_by_cmp unit_compare (unit_of x) unit && is_greatest order row x) (map.keys row.terms) h in
    let parts = and_parts (eq_by_cmp unit_compare (unit_of found.0) unit) (is_greatest order row found.0) found.2 in
    (found.0, IsGreatest-from_test p order row found.0 is found.1 parts.1, unit_from_tied (unit_of found.0) unit parts.0)

pub test-from_HasGreatestIn : (p : ℕ) (order : Order) (unit : Unit) (row : Row) → IsRow p order row → HasGreatestIn order unit row → has_greatest_in order unit row ≡ true
test-from_HasGreatestIn p order unit row is (x, top, of_unit) =
    any_passes (λ x. eq_by_cmp unit_compare (unit_of x) unit && is_greatest order row x) (map.keys row.terms) x (key_of_shown row x top.shown)
    (and_from (eq_by_cmp unit_compare (unit_of x) unit) (is_greatest order row x) (tied_unit (unit_of x) unit of_unit) (test-from_IsGreatest p order row x is top))

-- the pivot of the rule is shown by one of the rows
pub shown_from_test : (p : ℕ) (order : Order) (rows : List Row) (rule : Row) → IsRow p order rule → shows_pivot_of order rows rule ≡ true → (x : Integral) × IsGreatest order rule x × IsShownBySome rows x
shown_from_test p order rows rule is h =
    let found = some_passes (λ x. is_greatest order rule x && list_any (λ row. not (eqb (coefficient row x) 0)) rows) (map.keys rule.terms) h in
    let x = found.0 in
    let parts = and_parts (is_greatest order rule x) (list_any (λ row. not (eqb (coefficient row x) 0)) rows) found.2 in
    let row = some_passes (λ row. not (eqb (coefficient row x) 0)) rows parts.1 in
    (x, IsGreatest-from_test p order rule x is found.1 parts.0, (row.0, row.1, eqb-false (coefficient row.0 x) 0 (not-true (eqb (coefficient row.0 x) 0) row.2)))

pub test-from_shown : (p : ℕ) (order : Order) (rows : List Row) (rule : Row) (x : Integral) → IsRow p order rule → IsGreatest order rule x → IsShownBySome rows x → shows_pivot_of order rows rule ≡ true
test-from_shown p order rows rule x is top (row, member, shows) =
    any_passes (λ x. is_greatest order rule x && list_any (λ row. not (eqb (coefficient row x) 0)) rows) (map.keys rule.terms) x (key_of_shown rule x top.shown)
    (and_from (is_greatest order rule x) (list_any (λ row. not (eqb (coefficient row x) 0)) rows) (test-from_IsGreatest p order rule x is top)
    (any_passes (λ row. not (eqb (coefficient row x) 0)) rows row member (not_from_false (eqb (coefficient row x) 0) (ne_eqb (coefficient row x) 0 shows))))

-- ---- a row that shows something has a greatest integral

greatest_of_list : (order : Order) (x : Integral) (xs : List Integral) → (m : Integral) × Contains (x ∷ xs) m × ((y : Integral) → Contains (x ∷ xs) y → compare order y m ≢ Greater)
greatest_of_list order x [] = (
  x,
  Contains-here x [],
  λ y member above.
      elim (Contains-cons_cases x [] y member) [
        | inl same ↦ let tied = tied_itself (compare-total order) x in let turned : compare order x x ≡ Greater = ap (λ z. compare order z x) same ∙ above in absurd (cc)
        | inr later ↦ absurd (omega (arith, later.1))
      ],
)
greatest_of_list order x (z ∷ zs) =
    let r = greatest_of_list order z zs in
    let m = r.0 in
    elim (compare order x m) as (λ o. compare order x m ≡ o → (n : Integral) × Contains (x ∷ z ∷ zs) n × ((y : Integral) → Contains (x ∷ z ∷ zs) y → compare order y n ≢ Greater)) [
      | Greater ↦ λ e.
          let m_below : compare order m x ≢ Greater = λ g. let turned = (compare-total order).antisymm m x ∙ ap ordering_reverse e in absurd (cc) in
          let itself : compare order x x ≢ Greater = λ g. let tied = tied_itself (compare-total order) x in absurd (cc) in (
            x,
            Contains-here x (z ∷ zs),
            λ y member.
                elim (Contains-cons_cases x (z ∷ zs) y member) [
                  | inl same ↦ subst (λ w. compare order w x ≢ Greater) same itself
                  | inr later ↦ not_above order y m x (r.2 y later) m_below
                ],
          )
      | Less ↦ λ e. (
        m,
        Contains-there x (z ∷ zs) m r.1,
        λ y member.
            elim (Contains-cons_cases x (z ∷ zs) y member) [
              | inl same ↦ subst (λ w. compare order w m ≢ Greater) same (λ g. absurd (cc))
              | inr later ↦ r.2 y later
            ],
      )
      | Equal ↦ λ e. (
        m,
        Contains-there x (z ∷ zs) m r.1,
        λ y member.
            elim (Contains-cons_cases x (z ∷ zs) y member) [
              | inl same ↦ subst (λ w. compare order w m ≢ Greater) same (λ g. absurd (cc))
              | inr later ↦ r.2 y later
            ],
      )
    ] refl

pub empty_or_greatest : (p : ℕ) (order : Order) (row : Row) → IsRow p order row → IsEmpty row ⊎ ((x : Integral) × IsGreatest order row x)
empty_or_greatest p order row is =
    elim (map.keys row.terms) as (λ ks. map.keys row.terms ≡ ks → IsEmpty row ⊎ ((x : Integral) × IsGreatest order row x)) [
      | [] ↦ λ e. inl (λ y.
          elim (decided (coefficient row y)) [
            | inl none ↦ none
            | inr shows ↦ let key : Contains [] y = subst (λ ks. Contains ks y) e (key_of_shown row y shows) in absurd (omega (arith, key.1))
          ])
      | k ∷ ks ↦ λ e.
          let m = greatest_of_list order k ks in
          inr (
            m.0,
            record {
              shown = shown_of_key p order row m.0 is (subst (λ ks. Contains ks m.0) (sym e) m.1);
              greatest = λ y shows. m.2 y (subst (λ ks. Contains ks y) e (key_of_shown row y shows));
            },
          )
    ] refl

pub greatest_is_there : (p : ℕ) (order : Order) (row : Row) → IsRow p order row → ¬ (IsEmpty row) → (x : Integral) × IsGreatest order row x
greatest_is_there p order row is some = elim (empty_or_greatest p order row is) [ inl none ↦ absurd (some none) | inr top ↦ top ]

-- ---- units of what a row shows

-- what a row shows outside the unit of its greatest integral is of a lesser unit
pub shown_unit_less : (order : Order) (row : Row) (x y : Integral) → IsGreatest order row x → Shows row y → unit_of y ≢ unit_of x → unit_compare (unit_of y) (unit_of x) ≡ Less
shown_unit_less order row x y top shows differ =
    let by_units : compare order y x ≡ unit_compare (unit_of y) (unit_of x) = compare-of_units order y x differ in
    elim (unit_compare (unit_of y) (unit_of x)) as (λ o. compare order y x ≡ o → o ≡ Less) [
      | Less ↦ λ _. refl
      | Equal ↦ λ e. absurd (differ (ap unit_of (compare-IsAntisymmetric order y x e)))
      | Greater ↦ λ e. absurd (top.greatest y shows e)
    ] by_units
