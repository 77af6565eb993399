-- What the test `is_pivot` says, and which row `rule_for` finds.
use Rattle.std.proofs.Common.{◌≡◌, ◌≢◌, ℕ, Bool, true, false, cond, not, ◌&&◌, eqb, List, [], ◌∷◌, get_or, All, Contains, Option, Some, None, is_some, unwrap_or, find, refl, sym, ap, subst, ◌∙◌, arith, inl, inr}
use Rattle.std.specs.FinMap as map_of
use Rattle.std.specs.Ordering.{is_gt, is_eq, eq_by_cmp}
use Rattle.std.specs.declared.cmp.Ordering.{Ordering}
use Rattle.std.specs.declared.cmp.Ordering.TheVariants.{Less, Equal, Greater}
use Rattle.std.specs.Cmp.Derive.{both_true}
use Rattle.std.proofs.lemmas.Bool.{eqb-true, eq-eqb, false≢true}
use Rattle.std.proofs.lemmas.Cmp.{eq_by_cmp_equiv}
use Rattle.std.proofs.lemmas.List.Sums.{AllPass-from_list_all, list_all-from_AllPass}
use Rattle.std.proofs.lemmas.List.Elements.{All-contains, Contains-get_or}
use Rattle.std.proofs.lemmas.Map.Views.{list_any-from_Contains, Contains-from_any}
use Rattle.integral_index.specs.declared.Order.{Order}
use Rattle.integral_index.specs.Integral.{Integral}
use Rattle.integral_index.specs.Order.{by_fields, compare}
use Rattle.integral_index.proofs.Orders.{by_fields-total, by_fields-IsAntisymmetric}
use Rattle.sparse_row.specs.Row.{Row, coefficient, Shows, IsRow, IsPivot}
use Rattle.reduction_core.specs.NormalForm.{is_pivot, rule_for}
use Rattle.sector_forward.proofs.Members.{Contains-cons_cases, Contains-here, Contains-there}

first_true : (a b : Bool) → (a && b) ≡ true → a ≡ true
first_true true b h = refl
first_true false b h = h

second_true : (a b : Bool) → (a && b) ≡ true → b ≡ true
second_true true b h = h
second_true false b h = absurd (false≢true h)

tied : (r : Ordering) → is_eq r ≡ true → r ≡ Equal
tied Less h = absurd (false≢true h)
tied Equal h = refl
tied Greater h = absurd (false≢true h)

is_greater : (r : Ordering) → not (is_gt r) ≡ true → r ≢ Greater
is_greater Less h e = cc
is_greater Equal h e = cc
is_greater Greater h e = false≢true h

not_greater : (r : Ordering) → r ≢ Greater → not (is_gt r) ≡ true
not_greater Less h = refl
not_greater Equal h = refl
not_greater Greater h = absurd (h refl)

there : (o : Option ℕ) → unwrap_or o 0 ≢ 0 → is_some o ≡ true
there None h = absurd (h refl)
there (Some n) h = refl

not_nothing : (o : Option ℕ) → is_some o ≡ true → o ≢ Some 0 → unwrap_or o 0 ≢ 0
not_nothing None h n e = false≢true h
not_nothing (Some m) h n e = n (ap Some e)

-- the row shows just its keys
pub key_of_shown : (row : Row) (y : Integral) → Shows row y → Contains (map_of.keys row.terms) y
key_of_shown row y shows =
    Contains-from_any {eq = eq_by_cmp by_fields} (λ a b e. by_fields-IsAntisymmetric a b (tied (by_fields a b) e)) y (map_of.keys row.terms) (sym (map_of.contains_key-keys row.terms y) ∙ there (map_of.get row.terms y) shows)

pub shown_of_key : (p : ℕ) (order : Order) (row : Row) (y : Integral) → IsRow p order row → Contains (map_of.keys row.terms) y → Shows row y
shown_of_key p order row y is key =
    not_nothing (map_of.get row.terms y) (map_of.contains_key-keys row.terms y ∙ list_any-from_Contains (eq_by_cmp_equiv by_fields-total) y (map_of.keys row.terms) key) (is.no_zero y)

-- the test is true exactly at the pivot
pub IsPivot-from_test : (order : Order) (row : Row) (x : Integral) → is_pivot order row x ≡ true → IsPivot order row x
IsPivot-from_test order row x h =
    let one : coefficient row x ≡ 1 = eqb-true (coefficient row x) 1 (first_true _ _ h) in
    let none_greater = AllPass-from_list_all (λ y. not (is_gt (compare order y x))) (map_of.keys row.terms) (second_true (eqb (coefficient row x) 1) _ h) in
    record {
      is_greatest = record {
        shown = λ e. absurd (omega (arith, one));
        greatest = λ y shows. is_greater (compare order y x) (All-contains (λ z. not (is_gt (compare order z x)) ≡ true) (map_of.keys row.terms) y none_greater (key_of_shown row y shows));
      };
      one = one;
    }

All_of_members : (P : Integral → Type 0) (xs : List Integral) → ((x : Integral) → Contains xs x → P x) → All P xs
All_of_members P xs each k d h = each (get_or xs k d) (Contains-get_or xs k d h)

pub test-from_IsPivot : (p : ℕ) (order : Order) (row : Row) (x : Integral) → IsRow p order row → IsPivot order row x → is_pivot order row x ≡ true
test-from_IsPivot p order row x is pivot =
    both_true (eq-eqb (coefficient row x) 1 pivot.one)
    (list_all-from_AllPass (λ y. not (is_gt (compare order y x))) (map_of.keys row.terms)
    (All_of_members (λ y. not (is_gt (compare order y x)) ≡ true) (map_of.keys row.terms)
    (λ y key. not_greater (compare order y x) (pivot.is_greatest.greatest y (shown_of_key p order row y is key)))))

-- what a scan finds is a member that passes
pub find-member : {X : Type 0} (test : X → Bool) (xs : List X) (x : X) → find test xs ≡ Some x → Contains xs x × (test x ≡ true)
find-member test [] x e = absurd (cc)
find-member test (y ∷ ys) x e =
    elim (test y) as (λ b. test y ≡ b → cond b (Some y) (find test ys) ≡ Some x → Contains (y ∷ ys) x × (test x ≡ true)) [
      | true ↦ λ passes e. let same : y ≡ x = ap (λ o. unwrap_or o x) e in (subst (λ z. Contains (y ∷ ys) z) same (Contains-here y ys), ap test (sym same) ∙ passes)
      | false ↦ λ _ e. let later = find-member test ys x e in (Contains-there y ys x later.0, later.1)
    ] refl e

-- where a scan finds nothing, no member passes
pub find-none : {X : Type 0} (test : X → Bool) (xs : List X) → find test xs ≡ None → (x : X) → Contains xs x → test x ≡ false
find-none test [] e x member = absurd (omega (arith, member.1))
find-none test (y ∷ ys) e x member =
    elim (test y) as (λ b. test y ≡ b → cond b (Some y) (find test ys) ≡ None → test x ≡ false) [
      | true ↦ λ passes e. absurd (cc)
      | false ↦ λ fails e. elim (Contains-cons_cases y ys x member) [ inl same ↦ ap test (sym same) ∙ fails | inr later ↦ find-none test ys e x later ]
    ] refl e

-- the rule of x is a row of the table with this pivot
pub rule_is_pivot : (order : Order) (table : List Row) (x : Integral) (rule : Row) → rule_for order table x ≡ Some rule → Contains table rule × IsPivot order rule x
rule_is_pivot order table x rule e =
    let found = find-member (λ row. is_pivot order row x) table rule e in
    (found.0, IsPivot-from_test order rule x found.1)

-- where x has no rule it is no pivot
pub no_rule_no_pivot : (p : ℕ) (order : Order) (table : List Row) (x : Integral) → All (IsRow p order) table → rule_for order table x ≡ None → (row : Row) → Contains table row → ¬ (IsPivot order row x)
no_rule_no_pivot p order table x rows e row member pivot =
    false≢true (sym (find-none (λ row. is_pivot order row x) table e row member) ∙ test-from_IsPivot p order row x (All-contains (IsRow p order) table row rows member) pivot)
