-- Units, and lists of rows by unit.
use Rattle.std.proofs.Common.{◌≡◌, ◌≢◌, true, false, cond, None, Some, unwrap_or, List, [], ◌∷◌, Contains, refl, sym, ap, subst, ◌∙◌, ◌⊎◌, inl, inr}
use Rattle.std.specs.FinMap as map
use Rattle.std.specs.Ordering.{is_eq, eq_by_cmp}
use Rattle.std.specs.declared.cmp.Ordering.TheVariants.{Less, Equal, Greater}
use Rattle.std.proofs.lemmas.Bool.{false≢true}
use Rattle.std.proofs.lemmas.Cmp.{tied_itself}
use Rattle.integral_index.specs.Order.{unit_compare}
use Rattle.integral_index.specs.declared.Unit.{Unit}
use Rattle.integral_index.proofs.Orders.{unit_compare-total, unit_compare-IsAntisymmetric}
use Rattle.sparse_row.specs.Row.{Row}
use Rattle.sector_machine.specs.State.{RowsByUnit, Has, HasNone, rows_at, IsAmong, rows_of, unless_empty}
use Rattle.sector_machine.proofs.Lists.{Contains-none, member_joined, joined_member}

-- ---- units

pub unit_cases : (u v : Unit) → (u ≡ v) ⊎ (u ≢ v)
unit_cases u v =
    elim (unit_compare u v) as (λ o. unit_compare u v ≡ o → (u ≡ v) ⊎ (u ≢ v)) [
      | Equal ↦ λ e. inl (unit_compare-IsAntisymmetric u v e)
      | Less ↦ λ e. inr (λ same. let tied = tied_itself unit_compare-total u in let other = ap (unit_compare u) same in absurd (cc))
      | Greater ↦ λ e. inr (λ same. let tied = tied_itself unit_compare-total u in let other = ap (unit_compare u) same in absurd (cc))
    ] refl

pub tied_unit : (u v : Unit) → u ≡ v → eq_by_cmp unit_compare u v ≡ true
tied_unit u v same = ap (λ w. eq_by_cmp unit_compare u w) (sym same) ∙ ap is_eq (tied_itself unit_compare-total u)

pub unit_from_tied : (u v : Unit) → eq_by_cmp unit_compare u v ≡ true → u ≡ v
unit_from_tied u v h =
    elim (unit_compare u v) as (λ o. unit_compare u v ≡ o → is_eq o ≡ true → u ≡ v) [
      | Equal ↦ λ e _. unit_compare-IsAntisymmetric u v e
      | Less ↦ λ _ t. absurd (false≢true t)
      | Greater ↦ λ _ t. absurd (false≢true t)
    ] refl h

pub other_unit : (u v : Unit) → u ≢ v → eq_by_cmp unit_compare u v ≡ false
other_unit u v differ =
    elim (eq_by_cmp unit_compare u v) as (λ b. eq_by_cmp unit_compare u v ≡ b → b ≡ false) [
      | true ↦ λ e. absurd (differ (unit_from_tied u v e))
      | false ↦ λ _. refl
    ] refl

pub less_differs : (u v : Unit) → unit_compare u v ≡ Less → u ≢ v
less_differs u v less same = let tied = tied_itself unit_compare-total u in let other = ap (unit_compare u) same in absurd (cc)

-- ---- lists of rows by unit

pub there_or_not : (m : RowsByUnit) (u : Unit) → Has m u ⊎ HasNone m u
there_or_not m u = elim (map.get m u) as (λ o. (o ≢ None) ⊎ (o ≡ None)) [ None ↦ inr refl | Some rows ↦ inl (λ e. absurd (cc)) ]

pub get_inserted : (m : RowsByUnit) (u : Unit) (rows : List Row) → map.get (map.insert m u rows) u ≡ Some rows
get_inserted m u rows = map.get-insert unit_compare-total m u rows u ∙ ap (λ b. cond b (Some rows) (map.get m u)) (tied_unit u u refl)

pub get_others : (m : RowsByUnit) (u : Unit) (rows : List Row) (v : Unit) → v ≢ u → map.get (map.insert m u rows) v ≡ map.get m v
get_others m u rows v differ = map.get-insert unit_compare-total m u rows v ∙ ap (λ b. cond b (Some rows) (map.get m v)) (other_unit v u differ)

pub rows_inserted : (m : RowsByUnit) (u : Unit) (rows : List Row) → rows_at (map.insert m u rows) u ≡ rows
rows_inserted m u rows = ap (λ o. unwrap_or o []) (get_inserted m u rows)

pub rows_others : (m : RowsByUnit) (u : Unit) (rows : List Row) (v : Unit) → v ≢ u → rows_at (map.insert m u rows) v ≡ rows_at m v
rows_others m u rows v differ = ap (λ o. unwrap_or o []) (get_others m u rows v differ)

pub Has-inserted : (m : RowsByUnit) (u : Unit) (rows : List Row) → Has (map.insert m u rows) u
Has-inserted m u rows none = let is = get_inserted m u rows in absurd (cc)

pub Has-others : (m : RowsByUnit) (u : Unit) (rows : List Row) (v : Unit) → v ≢ u → Has (map.insert m u rows) v → Has m v
Has-others m u rows v differ has none = has (get_others m u rows v differ ∙ none)

pub Has-more : (m : RowsByUnit) (u : Unit) (rows : List Row) (v : Unit) → Has m v → Has (map.insert m u rows) v
Has-more m u rows v has =
    elim (unit_cases v u) [
      | inl same ↦ subst (Has (map.insert m u rows)) (sym same) (Has-inserted m u rows)
      | inr differ ↦ λ none. has (sym (get_others m u rows v differ) ∙ none)
    ]

pub no_rows : (m : RowsByUnit) (u : Unit) → HasNone m u → rows_at m u ≡ []
no_rows m u none = ap (λ o. unwrap_or o []) none

pub Has-from_member : (m : RowsByUnit) (u : Unit) (row : Row) → Contains (rows_at m u) row → Has m u
Has-from_member m u row member none = absurd (Contains-none row (subst (λ rows. Contains rows row) (no_rows m u none) member))

pub rows_of_nothing : (u : Unit) → rows_at map.empty u ≡ []
rows_of_nothing u = ap (λ o. unwrap_or o []) (map.get-empty unit_compare u)

-- ---- lists that aren't there where they are empty

pub rows_unless_empty : (rows : List Row) → unwrap_or (unless_empty rows) [] ≡ rows
rows_unless_empty [] = refl
rows_unless_empty (row ∷ rows) = refl

pub unless_empty-some : (rows : List Row) → unless_empty rows ≢ Some []
unless_empty-some [] e = absurd (cc)
unless_empty-some (row ∷ rows) e = let same = ap (λ o. unwrap_or o []) e in absurd (cc)

pub rows_by_get : (m : RowsByUnit) (u : Unit) (rows : List Row) → map.get m u ≡ unless_empty rows → rows_at m u ≡ rows
rows_by_get m u rows is = ap (λ o. unwrap_or o []) is ∙ rows_unless_empty rows

-- ---- the rows of all units

pub row_of_unit : (units : List Unit) (m : RowsByUnit) (u : Unit) (row : Row) → Contains units u → Contains (rows_at m u) row → Contains (rows_of units m) row
row_of_unit units m u row listed member = member_joined (rows_at m) units u row listed member

pub unit_of_row : (units : List Unit) (m : RowsByUnit) (row : Row) → Contains (rows_of units m) row → (u : Unit) × Contains units u × Contains (rows_at m u) row
unit_of_row units m row member = joined_member (rows_at m) units row member

pub among_from_rows : (units : List Unit) (m : RowsByUnit) (row : Row) → Contains (rows_of units m) row → IsAmong m row
among_from_rows units m row member = let found = unit_of_row units m row member in (found.0, found.2)
