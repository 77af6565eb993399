-- The coefficients of normal forms, and the laws on them.
use Rattle.std.proofs.Common.{◌≡◌, ◌≢◌, ℕ, ◌-◌, ◌%◌, Bool, true, false, cond, List, [], ◌∷◌, map, All, Contains, Option, Some, None, unwrap_or, refl, sym, ap, subst, ◌∙◌, ◌⊎◌, inl, inr}
use Rattle.std.specs.FinMap as map_of
use Rattle.std.specs.FinMap.Entries.{find}
use Rattle.std.specs.Option.{option_map}
use Rattle.std.proofs.Math.Nat.{sub-zero, mod_self}
use Rattle.std.proofs.lemmas.List.Elements.{All-contains}
use Rattle.integral_index.specs.declared.Order.{Order}
use Rattle.integral_index.specs.Integral.{Integral, sector_of}
use Rattle.integral_index.specs.Order.{by_fields, compare}
use Rattle.integral_index.specs.ZeroSectors.{is_zero_sector}
use Rattle.integral_index.proofs.Orders.{by_fields-total, compare-total, compare-IsAntisymmetric}
use Rattle.sparse_row.specs.Row.{Row, coefficient, Shows, IsPivot}
use Rattle.sparse_row.specs.ReducedList.{IsEchelon}
use Rattle.reduction_core.specs.NormalForm.{empty_row, unit_row, solved, by_rule, rule_for, normal_form}
use Rattle.reduction_core.specs.Laws.{ShowsNoZero, ShowsNoPivot}
use Rattle.sector_forward.proofs.Keys.{same_key, key_cases}
use Rattle.reduction_core.proofs.Law.{IsTop-one}
use Rattle.reduction_core.proofs.OneTable.{IsTop-from_pivot}
use Rattle.reduction_core.proofs.Pivots.{rule_is_pivot, no_rule_no_pivot}

-- ---- the rows of which normal forms are made

pub coefficient-empty_row : (order : Order) (y : Integral) → coefficient (empty_row order) y ≡ 0
coefficient-empty_row order y = ap (λ o. unwrap_or o 0) (map_of.get-empty by_fields y)

pub get-unit_row : (order : Order) (x y : Integral) → map_of.get (unit_row order x).terms y ≡ cond (same_key y x) (Some 1) None
get-unit_row order x y = map_of.get-insert by_fields-total map_of.empty x 1 y ∙ ap (λ o. cond (same_key y x) (Some 1) o) (map_of.get-empty by_fields y)

unwrap-cond : (b : Bool) → ◌≡◌ {A = ℕ} (unwrap_or (cond b (Some 1) None) 0) (cond b 1 0)
unwrap-cond true = refl
unwrap-cond false = refl

pub coefficient-unit_row : (order : Order) (x y : Integral) → coefficient (unit_row order x) y ≡ cond (same_key y x) 1 0
coefficient-unit_row order x y = ap (λ o. unwrap_or o 0) (get-unit_row order x y) ∙ unwrap-cond (same_key y x)

-- a look-up among entries whose values are mapped
find-map : (h : ℕ → ℕ) (y : Integral) (es : List (Integral × ℕ)) → find by_fields y (map (λ e. (e.0, h e.1)) es) ≡ option_map h (find by_fields y es)
find-map h y [] = refl
find-map h y (e ∷ es) =
    elim (same_key y e.0) as (λ b. cond b (Some (h e.1)) (find by_fields y (map (λ e. (e.0, h e.1)) es)) ≡ option_map h (cond b (Some e.1) (find by_fields y es))) [
      | true ↦ refl
      | false ↦ find-map h y es
    ]

pub get-solved : (p : ℕ) (row : Row) (x y : Integral) → map_of.get (solved p row x).terms y ≡ option_map (λ c. (p - c) % p) (cond (same_key y x) None (map_of.get row.terms y))
get-solved p row x y =
    map_of.get-from_entries by_fields-total (map (λ e. (e.0, (p - e.1) % p)) (map_of.entries (map_of.remove row.terms x))) y
    ∙ find-map (λ c. (p - c) % p) y (map_of.entries (map_of.remove row.terms x))
    ∙ ap (option_map (λ c. (p - c) % p)) (sym (map_of.get-entries (map_of.remove row.terms x) y) ∙ map_of.get-remove by_fields-total row.terms x y)

unwrap-mapped : (p : ℕ) (b : Bool) (o : Option ℕ) → unwrap_or (option_map (λ c. (p - c) % p) (cond b None o)) 0 ≡ cond b 0 ((p - unwrap_or o 0) % p)
unwrap-mapped p true o = refl
unwrap-mapped p false None = sym (ap (λ u. u % p) (sub-zero p) ∙ mod_self p)
unwrap-mapped p false (Some n) = refl

pub coefficient-solved : (p : ℕ) (row : Row) (x y : Integral) → coefficient (solved p row x) y ≡ cond (same_key y x) 0 ((p - coefficient row y) % p)
coefficient-solved p row x y = ap (λ o. unwrap_or o 0) (get-solved p row x y) ∙ unwrap-mapped p (same_key y x) (map_of.get row.terms y)

-- ---- what a normal form shows

-- at which keys the rows of a normal form are not 0
record IsUnitAt (x y : Integral) (o : Option Row) : Type 0 where
  none : o ≡ None
  itself : y ≡ x

record IsSolvedAt (x y : Integral) (o : Option Row) : Type 0 where
  rule : Row
  found : o ≡ Some rule
  other : y ≢ x
  shows : Shows rule y

unit_shows : (order : Order) (x y : Integral) → Shows (unit_row order x) y → y ≡ x
unit_shows order x y shows =
    elim (key_cases y x) [
      | inl same ↦ same.1
      | inr apart ↦ absurd (shows (coefficient-unit_row order x y ∙ ap (λ b. cond b 1 0) apart.0))
    ]

solved_shows : (p : ℕ) (row : Row) (x y : Integral) → Shows (solved p row x) y → (y ≢ x) × Shows row y
solved_shows p row x y shows =
    elim (key_cases y x) [
      | inl same ↦ absurd (shows (coefficient-solved p row x y ∙ ap (λ b. cond b 0 ((p - coefficient row y) % p)) same.0))
      | inr apart ↦
          (apart.1, λ none. shows (coefficient-solved p row x y ∙ ap (λ b. cond b 0 ((p - coefficient row y) % p)) apart.0 ∙ ap (λ u. (p - u) % p) none ∙ ap (λ u. u % p) (sub-zero p) ∙ mod_self p))
    ]

form_shows : (p : ℕ) (order : Order) (x y : Integral) (zero : Bool) (o : Option Row) → Shows (cond zero (empty_row order) (by_rule p order x o)) y → (zero ≡ false) × (IsUnitAt x y o ⊎ IsSolvedAt x y o)
form_shows p order x y true o shows = absurd (shows (coefficient-empty_row order y))
form_shows p order x y false None shows = (refl, inl (record { none = refl; itself = unit_shows order x y shows }))
form_shows p order x y false (Some rule) shows =
    let parts = solved_shows p rule x y shows in
    (refl, inr (record { rule = rule; found = refl; other = parts.0; shows = parts.1 }))

-- the rule of x shows no other pivot
pub no_pivot_shown : (p : ℕ) (order : Order) (zeros : List ℕ) (table : List Row) (x : Integral) → IsEchelon p order table → ShowsNoPivot order table (normal_form p order zeros table x)
no_pivot_shown p order zeros table x e row y member pivot shows =
    elim (form_shows p order x y (is_zero_sector zeros (sector_of x.indices)) (rule_for order table x) shows).1 [
      | inl unit ↦ no_rule_no_pivot p order table x e.rows unit.none row member (subst (IsPivot order row) unit.itself pivot)
      | inr solved ↦
          let rule = rule_is_pivot order table x solved.rule solved.found in
          let there : IsPivot order solved.rule y = e.apart row solved.rule y member rule.0 pivot solved.shows in
          solved.other (IsTop-one (compare order) (compare-total order) (compare-IsAntisymmetric order) p (coefficient solved.rule) y x (IsTop-from_pivot p order solved.rule y there) (IsTop-from_pivot p order solved.rule x rule.1))
    ]

-- an integral outside the zero sectors that is no pivot is its own normal form
stays_of : (p : ℕ) (order : Order) (zeros : List ℕ) (table : List Row) (y : Integral) → is_zero_sector zeros (sector_of y.indices) ≡ false → ((row : Row) → Contains table row → ¬ (IsPivot order row y)) → normal_form p order zeros table y ≡ unit_row order y
stays_of p order zeros table y nonzero none =
    ap (λ b. cond b (empty_row order) (by_rule p order y (rule_for order table y))) nonzero
    ∙ elim (rule_for order table y) as (λ o. rule_for order table y ≡ o → by_rule p order y o ≡ unit_row order y) [
      | None ↦ λ _. refl
      | Some rule ↦ λ found. let is = rule_is_pivot order table y rule found in absurd (none rule is.0 is.1)
    ] refl

pub masters_stay : (p : ℕ) (order : Order) (zeros : ℕ → List ℕ) (table : List Row) (x y : Integral) → IsEchelon p order table → All (ShowsNoZero zeros) table → Shows (normal_form p order (zeros x.family) table x) y → normal_form p order (zeros y.family) table y ≡ unit_row order y
masters_stay p order zeros table x y e no_zeros shows =
    let cases = form_shows p order x y (is_zero_sector (zeros x.family) (sector_of x.indices)) (rule_for order table x) shows in
    let nonzero : is_zero_sector (zeros y.family) (sector_of y.indices) ≡ false =
    elim cases.1 [
      | inl unit ↦ subst (λ z. is_zero_sector (zeros z.family) (sector_of z.indices) ≡ false) (sym unit.itself) cases.0
      | inr solved ↦ All-contains (ShowsNoZero zeros) table solved.rule no_zeros (rule_is_pivot order table x solved.rule solved.found).0 y solved.shows
    ] in
    stays_of p order (zeros y.family) table y nonzero (λ row member pivot. no_pivot_shown p order (zeros x.family) table x e row y member pivot shows)
