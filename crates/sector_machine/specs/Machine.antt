-- The machine of units: from which states which events lead to which.
-- Source: Laporta, hep-ph/0102033, and Kira, arXiv:1705.05610, which eliminate sector by sector and insert the relations of
-- lesser sectors into those of a greater one; that units wait for each other only as far as their rows ask is the project's own.
use Rattle.std.specs.Prelude.{◌≡◌, ◌≢◌, List, [], ◌∷◌, ◌++◌, ℕ, length, All, AllPairs, Contains, filter, count_by}
use Rattle.std.specs.FinMap as map
use Rattle.std.specs.declared.cmp.Ordering.TheVariants.{Less}
use Rattle.integral_index.specs.declared.Order.{Order}
use Rattle.integral_index.specs.declared.Unit.{Unit}
use Rattle.integral_index.specs.Integral.{Integral}
use Rattle.integral_index.specs.Order.{unit_of, unit_compare}
use Rattle.sparse_row.specs.Row.{Row, Shows, IsRow, IsGreatest, IsPivot}
use Rattle.sparse_row.specs.Span.{SameSpan}
use Rattle.sector_forward.specs.Elimination.{IsElimination, IsShownBySome}
use Rattle.back_substitute.specs.Substitution.{AreRules, ShowsNoPivotOf}
use Rattle.sector_machine.specs.State.{State, Has, HasNone, rows_at, IsAmong, rows_of, unless_empty, has_greatest_in}

-- the units ascend, each once
abbrev pub Ascends : List Unit → Type 0
Ascends units = AllPairs (λ unit other. unit_compare unit other ≡ Less) units

-- the units of all integrals that the rows show, ascending
pub record AreUnitsOf (rows : List Row) (units : List Unit) : Type 0 where
  pub ascend : Ascends units
  pub all : (x : Integral) → IsShownBySome rows x → Contains units (unit_of x)
  pub only : (unit : Unit) → Contains units unit → (x : Integral) × IsShownBySome rows x × (unit_of x ≡ unit)

-- the opening of rows of residues: each that isn't empty waits at the unit of its greatest integral, and nothing is done
pub record Opens (p : ℕ) (order : Order) (equations : List Row) (state : State) : Type 0 where
  pub are_rows : All (IsRow p order) equations
  pub units : AreUnitsOf equations state.units
  pub waiting : (unit : Unit) → map.get state.waiting unit ≡ unless_empty (filter (has_greatest_in order unit) equations)
  pub forward : state.forward ≡ map.empty
  pub back : state.back ≡ map.empty

-- the rows of B: the back rows of all units, units ascending
abbrev pub back_rows : State → List Row
back_rows state = rows_of state.units state.back

-- the greatest integral of the row is of the unit
abbrev pub HasGreatestIn : Order → Unit → Row → Type 0
HasGreatestIn order unit row = (x : Integral) × IsGreatest order row x × (unit_of x ≡ unit)

-- the unit has no forward rows yet, and each waiting row that shows an integral of it has its greatest integral in it.
-- So the rows that wait at the unit are all waiting rows that show an integral of it
pub record MayForward (order : Order) (unit : Unit) (state : State) : Type 0 where
  pub listed : Contains state.units unit
  pub new : HasNone state.forward unit
  pub alone : (row : Row) (x : Integral) → IsAmong state.waiting row → Shows row x → unit_of x ≡ unit → HasGreatestIn order unit row

-- the unit has forward rows and no back rows yet, and every other unit that its forward rows show has back rows
pub record MayBack (unit : Unit) (state : State) : Type 0 where
  pub eliminated : Has state.forward unit
  pub new : HasNone state.back unit
  pub lesser : (row : Row) (x : Integral) → Contains (rows_at state.forward unit) row → Shows row x → unit_of x ≢ unit → Has state.back (unit_of x)

-- as many rows, among which each pivot of the others is a pivot. Where no two of the others have one pivot, these are all
pub record HaveThePivots (order : Order) (others rows : List Row) : Type 0 where
  pub len : length rows ≡ length others
  pub each : (other : Row) (x : Integral) → Contains others other → IsPivot order other x → (row : Row) × Contains rows row × IsPivot order row x

-- the state with these forward rows of the unit and this rest: the rows that waited at the unit wait no more, and the rest
-- waits at the units of its greatest integrals, behind what waits there
pub record IsAfterForward (order : Order) (unit : Unit) (rows rest : List Row) (before after : State) : Type 0 where
  pub units : after.units ≡ before.units
  pub taken : HasNone after.waiting unit
  pub waiting : (other : Unit) → other ≢ unit → map.get after.waiting other ≡ unless_empty (rows_at before.waiting other ++ filter (has_greatest_in order other) rest)
  pub forward : after.forward ≡ map.insert before.forward unit rows
  pub back : after.back ≡ before.back

-- the state with these back rows of the unit
pub record IsAfterBack (unit : Unit) (rows : List Row) (before after : State) : Type 0 where
  pub units : after.units ≡ before.units
  pub waiting : after.waiting ≡ before.waiting
  pub forward : after.forward ≡ before.forward
  pub back : after.back ≡ map.insert before.back unit rows

-- the unit's waiting rows are eliminated: the rows become its forward rows, and the rest joins the waiting rows
pub record IsForward (p : ℕ) (order : Order) (unit : Unit) (rows rest : List Row) (before after : State) : Type 0 where
  pub may : MayForward order unit before
  pub elimination : IsElimination p order unit (rows_at before.waiting unit) rows rest
  pub change : IsAfterForward order unit rows rest before after

-- the pivots of lesser units are cleared out of the unit's forward rows, which gives its back rows: they have the pivots of
-- the forward rows, in any order, show no pivot of B, and span with all rows of B what the forward rows span with these
pub record IsBack (p : ℕ) (order : Order) (unit : Unit) (rows : List Row) (before after : State) : Type 0 where
  pub may : MayBack unit before
  pub rules : AreRules p order unit rows
  pub pivots : HaveThePivots order (rows_at before.forward unit) rows
  pub clear : All (ShowsNoPivotOf order (back_rows before)) rows
  pub span : SameSpan p (rows_at before.forward unit ++ back_rows before) (rows ++ back_rows before)
  pub change : IsAfterBack unit rows before after

-- an event of a unit: its forward rows with the rest, or its back rows
pub data Event : Type 0 where
  Forward : (unit : Unit) (rows rest : List Row) → Event
  Back : (unit : Unit) (rows : List Row) → Event

abbrev pub unit_of_event : Event → Unit
unit_of_event (Forward unit rows rest) = unit
unit_of_event (Back unit rows) = unit

-- the event leads from the one state to the other
abbrev pub Leads : ℕ → Order → Event → State → State → Type 0
Leads p order (Forward unit rows rest) before after = IsForward p order unit rows rest before after
Leads p order (Back unit rows) before after = IsBack p order unit rows before after

-- each event leads on from the state before
abbrev pub LeadOn : ℕ → Order → State → List Event → State → Type 0
LeadOn p order before [] after = before ≡ after
LeadOn p order before (event ∷ events) after = (next : State) × Leads p order event before next × LeadOn p order next events after

-- the events are a run from the opening of the equations
abbrev pub IsRun : ℕ → Order → List Row → List Event → State → Type 0
IsRun p order equations events state = (opening : State) × Opens p order equations opening × LeadOn p order opening events state

-- each unit has back rows
abbrev pub IsDone : State → Type 0
IsDone state = All (Has state.back) state.units

-- how many units have forward rows
abbrev pub forward_count : State → ℕ
forward_count state = count_by (λ unit. map.contains_key state.forward unit) state.units

-- how many units have back rows
abbrev pub back_count : State → ℕ
back_count state = count_by (λ unit. map.contains_key state.back unit) state.units
