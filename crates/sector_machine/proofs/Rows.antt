-- The rows of a state of which the invariant holds.
use Rattle.std.proofs.Common.{◌≡◌, ◌≢◌, ℕ, List, All, Contains, sym, ap, subst, ◌∙◌}
use Rattle.std.proofs.lemmas.List.Elements.{All-contains}
use Rattle.integral_index.specs.Order.{unit_of}
use Rattle.integral_index.specs.Integral.{Integral}
use Rattle.integral_index.specs.declared.Unit.{Unit}
use Rattle.integral_index.specs.declared.Order.{Order}
use Rattle.sparse_row.specs.Row.{Row, Shows, IsRow, IsGreatest, IsPivot}
use Rattle.sparse_row.specs.Span.{InSpan}
use Rattle.sparse_row.proofs.RowSpans.{InSpan-member}
use Rattle.sparse_row.proofs.RowValues.{greatest_same}
use Rattle.sector_forward.specs.Elimination.{IsTaken, IsRuleOf, IsShownBySome}
use Rattle.back_substitute.specs.Substitution.{AreRules}
use Rattle.sector_machine.specs.State.{State, Has, HasNone, rows_at, rows_of}
use Rattle.sector_machine.specs.Machine.{back_rows, HasGreatestIn}
use Rattle.sector_machine.specs.Invariant.{HoldsOfRows}
use Rattle.sector_machine.proofs.Lists.{All-from_members}
use Rattle.sector_machine.proofs.Units.{Has-from_member, row_of_unit, unit_of_row}

-- ---- rows of one unit

pub row_of_rules : (p : ℕ) (order : Order) (unit : Unit) (rows : List Row) (row : Row) → AreRules p order unit rows → Contains rows row → IsRow p order row
row_of_rules p order unit rows row rules member = (All-contains (IsRuleOf p order unit) rows row rules.each member).is_row

-- the pivot of a rule is of its unit
pub unit_of_pivot : (p : ℕ) (order : Order) (unit : Unit) (rows : List Row) (row : Row) (x : Integral) → AreRules p order unit rows → Contains rows row → IsGreatest order row x → unit_of x ≡ unit
unit_of_pivot p order unit rows row x rules member top =
    let own = (All-contains (IsRuleOf p order unit) rows row rules.each member).pivot in
    ap unit_of (greatest_same order row x own.0 top (own.1).is_greatest) ∙ own.2

-- a row has its greatest integral in one unit
pub one_unit : (order : Order) (row : Row) (unit other : Unit) → HasGreatestIn order unit row → HasGreatestIn order other row → unit ≡ other
one_unit order row unit other (x, top, of_unit) (y, also, of_other) = sym of_unit ∙ ap unit_of (greatest_same order row x y top also) ∙ of_other

-- ---- spans by members

-- rows of residues that are members of the others are in their span
pub member_in_span : (p : ℕ) (order : Order) (rows : List Row) (row : Row) → IsRow p order row → Contains rows row → InSpan p rows row
member_in_span p order rows row is member = InSpan-member p rows row is.below member

module _ (p : ℕ) (order : Order) (equations : List Row) (state : State) (holds : HoldsOfRows p order equations state) where
  -- ---- the waiting rows

  pub waiting_taken : (unit : Unit) (row : Row) → Contains (rows_at state.waiting unit) row → IsTaken p order unit row
  waiting_taken unit row member = All-contains (IsTaken p order unit) (rows_at state.waiting unit) row (holds.waiting.grouped unit) member

  -- ---- the forward rows

  pub forward_row : (unit : Unit) (row : Row) → Contains (rows_at state.forward unit) row → IsRow p order row
  forward_row unit row member = row_of_rules p order unit (rows_at state.forward unit) row (holds.forward unit) member

  pub forward_listed : (unit : Unit) (row : Row) → Contains (rows_at state.forward unit) row → Contains (rows_of state.units state.forward) row
  forward_listed unit row member =
      row_of_unit state.units state.forward unit row (holds.units.eliminated unit (Has-from_member state.forward unit row member)) member

  -- ---- the back rows

  pub back_unit_listed : (unit : Unit) → Has state.back unit → Contains state.units unit
  back_unit_listed unit has = holds.units.eliminated unit (holds.back.eliminated unit has)

  pub back_listed : (unit : Unit) (row : Row) → Contains (rows_at state.back unit) row → Contains (back_rows state) row
  back_listed unit row member =
      row_of_unit state.units state.back unit row (back_unit_listed unit (Has-from_member state.back unit row member)) member

  pub back_row : (row : Row) → Contains (back_rows state) row → IsRow p order row
  back_row row member =
      let found = unit_of_row state.units state.back row member in
      row_of_rules p order found.0 (rows_at state.back found.0) row (holds.back.rules found.0) found.2

  pub back_pivot : (row : Row) → Contains (back_rows state) row → (x : Integral) × IsPivot order row x
  back_pivot row member =
      let found = unit_of_row state.units state.back row member in
      let own = (All-contains (IsRuleOf p order found.0) (rows_at state.back found.0) row (holds.back.rules found.0).each found.2).pivot in
      (own.0, own.1)

  pub back_are_rows : All (IsRow p order) (back_rows state)
  back_are_rows = All-from_members (IsRow p order) (back_rows state) back_row

  -- no back row shows an integral of a unit without back rows
  pub back_shows_none : (unit : Unit) (row : Row) (x : Integral) → HasNone state.back unit → Contains (back_rows state) row → Shows row x → unit_of x ≢ unit
  back_shows_none unit row x none member shows same =
      let found = unit_of_row state.units state.back row member in
      holds.back.closed row x (found.0, found.2) shows (subst (HasNone state.back) (sym same) none)

  -- ---- what is shown is of a listed unit

  pub waiting_shown_listed : (unit : Unit) (x : Integral) → IsShownBySome (rows_at state.waiting unit) x → Contains state.units (unit_of x)
  waiting_shown_listed unit x (row, member, shows) = holds.units.waiting row x (unit, member) shows
