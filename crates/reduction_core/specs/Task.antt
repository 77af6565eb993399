-- A task: rows of a unit with the computation that they are for, and what a record has to meet for it.
-- Source: Laporta, hep-ph/0102033, and Kira, arXiv:1705.05610, for the two computations; the task is the project's own.
use Rattle.std.specs.Prelude.{◌≡◌, ⊤, ℕ, All, refl}
use Rattle.std.specs.Coded.{Coded, code_by, coded×, coded_ℕ}
use Rattle.integral_index.specs.declared.Order.{Order}
use Rattle.integral_index.specs.declared.Unit.{Unit}
use Rattle.sector_forward.specs.Elimination.{IsTaken, IsElimination}
use Rattle.sector_forward.specs.declared.fault.ForwardFault.{ForwardFault}
use Rattle.sector_forward.specs.declared.fault.ForwardFault.TheVariants as fault
use Rattle.back_substitute.specs.Substitution.{AreRules, AreBelow, IsSubstitution}
use Rattle.reduction_core.specs.declared.task.Work.{Work}
use Rattle.reduction_core.specs.declared.task.Work.TheVariants as work
use Rattle.reduction_core.specs.contracts.task.Work as work_contracts
use Rattle.reduction_core.specs.declared.records.Record.{Record}
use Rattle.reduction_core.specs.declared.records.Record.TheVariants as outcome

pub record Task : Type 0 where
  pub modulus : ℕ
  pub work : Work

-- a task is stored as its fields
abbrev pub task_code : Coded Task
task_code =
    code_by (ℕ × Work) (coded× coded_ℕ (work_contracts.the_row).coded) (λ t. (t.modulus, t.work)) (λ p. record { modulus = p.0; work = p.1 }) (λ _. refl)

abbrev pub unit_of_work : Work → Unit
unit_of_work (work.Forward unit rows) = unit
unit_of_work (work.Back unit rows below) = unit

-- a forward elimination is one step
abbrev pub step_count : Work → ℕ
step_count (work.Forward unit rows) = 1
step_count (work.Back unit rows below) = 0

-- a back substitution divides by nothing, so that want of memory alone breaks it off. Of a forward elimination nothing is said here
abbrev pub MayBreakOff : Work → ForwardFault → Type 0
MayBreakOff (work.Forward unit rows) why = ⊤
MayBreakOff (work.Back unit rows below) why = why ≡ fault.OutOfMemory

-- the rows meet the conditions of the elimination, or of the back substitution, in this order
abbrev pub MeetsConditions : ℕ → Order → Work → Type 0
MeetsConditions p order (work.Forward unit rows) = All (IsTaken p order unit) rows
MeetsConditions p order (work.Back unit rows below) = AreRules p order unit rows × AreBelow p order unit below

-- the record is of the same kind and unit, and has an elimination of the rows, or a back substitution of them by the rows below
abbrev pub IsOutcome : ℕ → Order → Work → Record → Type 0
IsOutcome p order (work.Forward unit taken) (outcome.Forward of_unit rows rest) = (of_unit ≡ unit) × IsElimination p order unit taken rows rest
IsOutcome p order (work.Back unit input below) (outcome.Back of_unit rows) = (of_unit ≡ unit) × IsSubstitution p order unit input below rows
IsOutcome p order (work.Forward unit taken) (outcome.Back of_unit rows) = ⊥
IsOutcome p order (work.Back unit input below) (outcome.Forward of_unit rows rest) = ⊥

-- the record meets the event of the task, in the order that the rows have. Work without rows has no order of its own, and
-- the record meets it in each
abbrev pub MeetsTask : Task → Record → Type 0
MeetsTask task made = (order : Order) → MeetsConditions task.modulus order task.work → IsOutcome task.modulus order task.work made
