-- The laws of the machine of units, each the contract of a function of `laws`.
use Rattle.std.specs.Prelude.{◌≡◌, ◌≢◌, ◌↔◌, ◌⊎◌, true, ℕ, ◌+◌, ◌*◌, ◌≤◌, List, [], ◌∷◌, ◌++◌, length, All, Contains}
use Rattle.integral_index.specs.declared.Order.{Order}
use Rattle.integral_index.specs.declared.Unit.{Unit}
use Rattle.integral_index.specs.Integral.{Integral}
use Rattle.integral_index.specs.Order.{unit_of}
use Rattle.sparse_row.specs.Row.{Row, Shows, IsRow}
use Rattle.sparse_row.specs.ReducedList.{IsReduced}
use Rattle.sector_forward.specs.Elimination.{IsTaken, IsElimination}
use Rattle.back_substitute.specs.Substitution.{AreRules, AreBelow, IsSubstitution}
use Rattle.back_substitute.specs.Laws.{HasAllShown}
use Rattle.sector_machine.specs.State.{State, Has, HasNone, rows_at, IsAmong, has_greatest_in}
use Rattle.sector_machine.specs.Machine.{Opens, back_rows, HasGreatestIn, MayForward, MayBack, IsAfterForward, IsAfterBack, IsForward, IsBack, Event, unit_of_event, Leads, IsRun, IsDone, forward_count, back_count}
use Rattle.sector_machine.specs.Tasks.{below_of, KeepsTask, IsTableOf}
use Rattle.sector_machine.specs.Accepted.{IsAcceptedForward, IsAcceptedBack}
use Rattle.sector_machine.specs.Invariant.{HoldsOfRows, Holds}

-- ---- what holds of each state that a run reaches

abbrev pub OpeningHolds : Type 0
OpeningHolds = (p : ℕ) (order : Order) (equations : List Row) (state : State) → Opens p order equations state → Holds p order equations state

abbrev pub EventsKeepHolds : Type 0
EventsKeepHolds =
    (p : ℕ) (order : Order) (equations : List Row) (event : Event) (before after : State)
    → Holds p order equations before → Leads p order event before after → Holds p order equations after

abbrev pub RunsHold : Type 0
RunsHold = (p : ℕ) (order : Order) (equations : List Row) (events : List Event) (state : State) → IsRun p order equations events state → Holds p order equations state

-- an event is accepted
abbrev pub ForwardIsAccepted : Type 0
ForwardIsAccepted =
    (p : ℕ) (order : Order) (unit : Unit) (rows rest : List Row) (before after : State)
    → IsForward p order unit rows rest before after → IsAcceptedForward p order before unit rows rest

abbrev pub BackIsAccepted : Type 0
BackIsAccepted =
    (p : ℕ) (order : Order) (unit : Unit) (rows : List Row) (before after : State)
    → IsBack p order unit rows before after → IsAcceptedBack p order before unit rows

-- and rows that are accepted keep what holds of rows, apart from spans
abbrev pub AcceptedForwardKeepsRows : Type 0
AcceptedForwardKeepsRows =
    (p : ℕ) (order : Order) (equations : List Row) (unit : Unit) (rows rest : List Row) (before after : State)
    → HoldsOfRows p order equations before → IsAcceptedForward p order before unit rows rest → IsAfterForward order unit rows rest before after → HoldsOfRows p order equations after

abbrev pub AcceptedBackKeepsRows : Type 0
AcceptedBackKeepsRows =
    (p : ℕ) (order : Order) (equations : List Row) (unit : Unit) (rows : List Row) (before after : State)
    → HoldsOfRows p order equations before → IsAcceptedBack p order before unit rows → IsAfterBack unit rows before after → HoldsOfRows p order equations after

-- ---- runs

-- a run goes on by one event
abbrev pub RunsGoOn : Type 0
RunsGoOn =
    (p : ℕ) (order : Order) (equations : List Row) (events : List Event) (event : Event) (state after : State)
    → IsRun p order equations events state → Leads p order event state after → IsRun p order equations (events ++ event ∷ []) after

-- rows open one state
abbrev pub OneOpening : Type 0
OneOpening = (p : ℕ) (order : Order) (equations : List Row) (state other : State) → Opens p order equations state → Opens p order equations other → state ≡ other

-- an event leads to one state
abbrev pub OneStateAfter : Type 0
OneStateAfter =
    (p : ℕ) (order : Order) (event : Event) (before after other : State)
    → Leads p order event before after → Leads p order event before other → after ≡ other

-- ---- the end of a run

-- every run from the opening of the equations that ends done has their reduced list as its table
abbrev pub DoneIsReduced : Type 0
DoneIsReduced =
    (p : ℕ) (order : Order) (equations : List Row) (events : List Event) (state : State) (table : List Row)
    → IsRun p order equations events state → IsDone state → IsTableOf order state table → IsReduced p order equations table

-- the same of the state alone
abbrev pub HoldsDoneIsReduced : Type 0
HoldsDoneIsReduced =
    (p : ℕ) (order : Order) (equations : List Row) (state : State) (table : List Row)
    → Holds p order equations state → IsDone state → IsTableOf order state table → IsReduced p order equations table

-- the back rows of a state can be put in ascending order
abbrev pub TablesAreThere : Type 0
TablesAreThere =
    (p : ℕ) (order : Order) (equations : List Row) (state : State) → HoldsOfRows p order equations state → (table : List Row) × IsTableOf order state table

-- and in one way only
abbrev pub OneTable : Type 0
OneTable =
    (p : ℕ) (order : Order) (equations : List Row) (state : State) (table other : List Row)
    → HoldsOfRows p order equations state → IsTableOf order state table → IsTableOf order state other → table ≡ other

-- ---- what rows show

-- no waiting row shows an integral of a unit that has forward rows
abbrev pub WaitingShowsNoEliminatedUnit : Type 0
WaitingShowsNoEliminatedUnit =
    (p : ℕ) (order : Order) (equations : List Row) (events : List Event) (state : State) (row : Row) (x : Integral)
    → IsRun p order equations events state → IsAmong state.waiting row → Shows row x → HasNone state.forward (unit_of x)

-- a back row shows only integrals of units that have back rows
abbrev pub BackRowsShowDoneUnits : Type 0
BackRowsShowDoneUnits =
    (p : ℕ) (order : Order) (equations : List Row) (events : List Event) (state : State) (row : Row) (x : Integral)
    → IsRun p order equations events state → IsAmong state.back row → Shows row x → Has state.back (unit_of x)

-- the rows that a forward event takes are all waiting rows that show an integral of the unit
abbrev pub TakenShowTheUnit : Type 0
TakenShowTheUnit =
    (p : ℕ) (order : Order) (equations : List Row) (unit : Unit) (state : State) (row : Row)
    → HoldsOfRows p order equations state → MayForward order unit state
    → Contains (rows_at state.waiting unit) row ↔ (IsAmong state.waiting row × ((x : Integral) × Shows row x × (unit_of x ≡ unit)))

-- the test by which waiting rows are grouped is true of just the rows with their greatest integral in the unit
abbrev pub GroupedByGreatest : Type 0
GroupedByGreatest = (p : ℕ) (order : Order) (unit : Unit) (row : Row) → IsRow p order row → (has_greatest_in order unit row ≡ true) ↔ HasGreatestIn order unit row

-- ---- events of different units

-- an event leaves the tasks of the other units as they were
abbrev pub TasksStay : Type 0
TasksStay =
    (p : ℕ) (order : Order) (equations : List Row) (event : Event) (unit : Unit) (before after : State)
    → HoldsOfRows p order equations before → Leads p order event before after → unit ≢ unit_of_event event → KeepsTask order unit before after

-- where events of two units may both happen, each may still happen after the other
abbrev pub EventsFollowEachOther : Type 0
EventsFollowEachOther =
    (p : ℕ) (order : Order) (equations : List Row) (event other : Event) (before after next : State)
    → HoldsOfRows p order equations before → Leads p order event before after → Leads p order other before next → unit_of_event other ≢ unit_of_event event
    → (last : State) × Leads p order other after last

-- ---- which events may happen

-- until the state is done an event may happen for some unit
abbrev pub SomethingIsReady : Type 0
SomethingIsReady =
    (p : ℕ) (order : Order) (equations : List Row) (state : State)
    → HoldsOfRows p order equations state → ¬ (IsDone state) → (unit : Unit) × (MayForward order unit state ⊎ MayBack unit state)

-- and then none
abbrev pub DoneIsTheEnd : Type 0
DoneIsTheEnd =
    (p : ℕ) (order : Order) (equations : List Row) (unit : Unit) (state : State)
    → HoldsOfRows p order equations state → IsDone state → ¬ (MayForward order unit state) × ¬ (MayBack unit state)

-- ---- how many events there are

-- a forward event gives one unit more its forward rows, and a back event its back rows, whichever rows these are
abbrev pub ForwardIsCounted : Type 0
ForwardIsCounted =
    (p : ℕ) (order : Order) (equations : List Row) (unit : Unit) (rows rest : List Row) (before after : State)
    → HoldsOfRows p order equations before → MayForward order unit before → IsAfterForward order unit rows rest before after
    → (forward_count after ≡ forward_count before + 1) × (back_count after ≡ back_count before)

abbrev pub BackIsCounted : Type 0
BackIsCounted =
    (p : ℕ) (order : Order) (equations : List Row) (unit : Unit) (rows : List Row) (before after : State)
    → HoldsOfRows p order equations before → MayBack unit before → IsAfterBack unit rows before after
    → (forward_count after ≡ forward_count before) × (back_count after ≡ back_count before + 1)

-- no unit has back rows without forward rows, and a state is done where as many units have back rows as there are
abbrev pub CountsAreBounded : Type 0
CountsAreBounded =
    (p : ℕ) (order : Order) (equations : List Row) (state : State) → HoldsOfRows p order equations state
    → (back_count state ≤ forward_count state) × (forward_count state ≤ length state.units)

abbrev pub DoneIsCounted : Type 0
DoneIsCounted = (state : State) → IsDone state ↔ (back_count state ≡ length state.units)

-- a run has two events for each unit at most
abbrev pub RunsAreShort : Type 0
RunsAreShort =
    (p : ℕ) (order : Order) (equations : List Row) (events : List Event) (state : State) → IsRun p order equations events state
    → (length events ≡ forward_count state + back_count state) × (length events ≤ 2 * length state.units)

-- ---- what is computed serves

-- the rows of a task meet the conditions of the elimination and of the back substitution
abbrev pub TakenMeetTheConditions : Type 0
TakenMeetTheConditions =
    (p : ℕ) (order : Order) (equations : List Row) (unit : Unit) (state : State)
    → HoldsOfRows p order equations state → All (IsTaken p order unit) (rows_at state.waiting unit)

abbrev pub ForwardRowsMeetTheConditions : Type 0
ForwardRowsMeetTheConditions =
    (p : ℕ) (order : Order) (equations : List Row) (unit : Unit) (state : State)
    → HoldsOfRows p order equations state → MayBack unit state
    → AreRules p order unit (rows_at state.forward unit) × AreBelow p order unit (below_of order state unit)

-- an elimination of the rows that wait at the unit is a forward event of it
abbrev pub EliminationServes : Type 0
EliminationServes =
    (p : ℕ) (order : Order) (unit : Unit) (rows rest : List Row) (before after : State)
    → MayForward order unit before → IsElimination p order unit (rows_at before.waiting unit) rows rest → IsAfterForward order unit rows rest before after
    → Leads p order (Event.Forward unit rows rest) before after

-- and it leads to a state
abbrev pub StatesAreThere : Type 0
StatesAreThere =
    (p : ℕ) (order : Order) (equations : List Row) (unit : Unit) (rows rest : List Row) (before : State)
    → HoldsOfRows p order equations before → MayForward order unit before → IsElimination p order unit (rows_at before.waiting unit) rows rest
    → (after : State) × Leads p order (Event.Forward unit rows rest) before after

-- a back substitution of the unit's forward rows by the back rows whose pivots they show is a back event of it
abbrev pub SubstitutionServes : Type 0
SubstitutionServes =
    (p : ℕ) (order : Order) (equations : List Row) (unit : Unit) (rows : List Row) (before after : State)
    → HoldsOfRows p order equations before → MayBack unit before → IsSubstitution p order unit (rows_at before.forward unit) (below_of order before unit) rows
    → IsAfterBack unit rows before after → Leads p order (Event.Back unit rows) before after

-- and so is one by any back rows among which these are
abbrev pub MoreBelowServes : Type 0
MoreBelowServes =
    (p : ℕ) (order : Order) (equations : List Row) (unit : Unit) (below rows : List Row) (before after : State)
    → HoldsOfRows p order equations before → MayBack unit before → HasAllShown p order (rows_at before.forward unit) below (back_rows before)
    → IsSubstitution p order unit (rows_at before.forward unit) below rows → IsAfterBack unit rows before after → Leads p order (Event.Back unit rows) before after
