-- What the call of the program promises.
use Rattle.std.specs.Prelude.{◌≡◌, ◌≢◌, ◌⊎◌, ◌<◌, ⊤, ℕ, List, [], length, ◌+◌, Result, Option, option_map, Ok, Err}
use Rattle.std.specs.Int.{◌∣◌}
use Rattle.yaml_text.specs.Lines.{Bytes}
use Rattle.field_word.specs.declared.Composite.{Composite}
use Rattle.integral_index.specs.declared.Unit.{Unit as SectorUnit}
use Rattle.sparse_row.specs.Row.{Row}
use Rattle.sparse_row.specs.ReducedList.{IsReduced}
use Rattle.sector_machine.specs.Machine.{AreUnitsOf}
use Rattle.reduction_core.specs.Table.{Table}
use Rattle.kira_outside.specs.Faults.{Rose}
use Rattle.kira_outside.specs.Held.{Held}
use Rattle.kira_outside.specs.Stream.{Stream}
use Rattle.table_text.specs.Sending.{sent, IsPrefixSent}
use Rattle.table_text.specs.Pieces.{name_of}
use Rattle.table_text.specs.TableText.{table_text, zeros_of}
use Rattle.job_equations.specs.Equations.{AreEquations}
use Rattle.job_point.specs.declared.faults.Singular.TheVariants as singular
use Rattle.job_outline.specs.Outlines.{Outline}
use Rattle.job_plan.specs.Plans.{Plan}
use Rattle.kira_app.specs.declared.job_files.Trees.{Trees}
use Rattle.kira_app.specs.declared.status.Status.{Status}
use Rattle.kira_app.specs.declared.status.Status.TheVariants as status
use Rattle.kira_app.specs.declared.refusal.Refusal.{Refusal}
use Rattle.kira_app.specs.Message.{message_text, usage_line, IsToldOf}
use Rattle.kira_app.specs.Told.{IfTold, IsStill}
use Rattle.kira_app.specs.Words.{AsksUsage, AsksUnserved, job_file, overrides_of}
use Rattle.kira_app.specs.Sources.{TreesOf, OutlineOf}
use Rattle.kira_app.specs.Plans.{PlanOf}

-- ---- the table

-- the equations of the plan's seeds
abbrev pub AreEquationsOf : Plan → List Row → Type 0
AreEquationsOf plan equations = AreEquations plan.bases plan.symmetries plan.zeros plan.dimension plan.order plan.seeds equations

-- the table is the reduced list of the plan's equations
pub record IsTableOf (plan : Plan) (table : List Row) : Type 0 where
  pub equations : List Row
  pub are : AreEquationsOf plan equations
  pub reduced : IsReduced plan.modulus plan.order equations table

-- the table is the one reduced list of the plan's equations
pub record IsSolved (plan : Plan) (table : Table) : Type 0 where
  pub modulus : table.modulus ≡ plan.modulus
  pub order : table.order ≡ plan.order
  pub is : IsTableOf plan table.rows
  pub only : (other : List Row) → IsTableOf plan other → other ≡ table.rows

-- the text of the table for the selection, with the names and the zero sectors of the families
abbrev pub text_of : Plan → List Row → List ℕ
text_of plan table =
    table_text (name_of plan.names) (zeros_of plan.zeros) (record { modulus = plan.modulus; order = plan.order; rows = table }) plan.selection

-- there is a reduced list of the plan's equations, and the bytes are the text of every such list
pub record IsTextOf (plan : Plan) (bytes : List ℕ) : Type 0 where
  pub exists : (table : List Row) × IsTableOf plan table
  pub every : (table : List Row) → IsTableOf plan table → bytes ≡ text_of plan table

-- the sink was sent the whole text, and flushed
abbrev pub IsSent : Option Stream → Option Stream → Plan → Type 0
IsSent before after plan = (bytes : List ℕ) × IsTextOf plan bytes × (after ≡ option_map (sent bytes) before)

-- the sink was sent a prefix of the text
abbrev pub IsPartlySent : Option Stream → Option Stream → Plan → Type 0
IsPartlySent before after plan = (bytes : List ℕ) × IsTextOf plan bytes × IsPrefixSent bytes before after

-- ---- the steps

-- one step was taken for each unit of the integrals that the plan's equations show
pub record TakesUnits (before after : ℕ) (plan : Plan) : Type 0 where
  pub equations : List Row
  pub are : AreEquationsOf plan equations
  pub units : List SectorUnit
  pub units_are : AreUnitsOf equations units
  pub taken : after ≡ before + length units

-- no step was taken, but where a table was made or a reduction was broken off
abbrev pub StandsStill : ℕ → ℕ → Status → Type 0
StandsStill before after status.Ok = ⊤
StandsStill before after status.WriteFault = ⊤
StandsStill before after (status.Composite fault) = ⊤
StandsStill before after status.OutOfMemory = ⊤
StandsStill before after other = after ≡ before

-- ---- the job

-- the words and the files have a plan, of which this is true
pub record HavePlan (words : List Bytes) (P : Plan → Type 0) (held : Held) : Type 0 where
  pub plan : Plan
  pub is : PlanOf words held (Ok plan)
  pub holds : P plan

-- the words and the files have this first refusal, and the name is the one that its message tells
abbrev pub AreRefusedAs : List Bytes → Status → Bytes → Held → Type 0
AreRefusedAs words s name held = PlanOf words held (Err (record { status = s; name = name }))

-- the words and the files have this first refusal
abbrev pub AreRefused : List Bytes → Status → Held → Type 0
AreRefused words s held = (name : Bytes) × AreRefusedAs words s name held

-- ---- the modulus

-- the divisor lies between 1 and the modulus, and divides it
pub record IsDivisor (p divisor : ℕ) : Type 0 where
  pub above_1 : 1 < divisor
  pub below : divisor < p
  pub divides : divisor ∣ p

-- the divisor is one of the modulus that the job names
pub record IsDivisorIn (words : List Bytes) (divisor : ℕ) (held : Held) : Type 0 where
  pub trees : Trees
  pub read : TreesOf (job_file words) held (Ok trees)
  pub outline : Outline
  pub outlined : OutlineOf (overrides_of words) trees (Ok outline)
  pub divides : IsDivisor outline.point.prime divisor

-- The status names a divisor of the modulus that the job names.
abbrev pub NamesDivisor : List Bytes → Held → Status → Type 0
NamesDivisor words held s = (fault : Composite) × (s ≡ status.Composite fault) × IsDivisorIn words fault.divisor held

-- A step of the plan inverts, and this is its refusal, or there is a plan and the divisor is one of its modulus.
abbrev pub IsStopped : List Bytes → Composite → Held → Type 0
IsStopped words fault held = AreRefused words (status.Composite fault) held ⊎ HavePlan words (λ plan. IsDivisor plan.modulus fault.divisor) held

-- the only divisors of p are 1 and p
pub record IsPrime (p : ℕ) : Type 0 where
  pub above_1 : 1 < p
  pub only : (d : ℕ) → d ∣ p → (d ≡ 1) ⊎ (d ≡ p)

-- what a refusal of a reduction says
abbrev pub IsReductionFault : ℕ → Status → Type 0
IsReductionFault p (status.Composite fault) = IsDivisor p fault.divisor
IsReductionFault p status.OutOfMemory = ⊤
IsReductionFault p other = ⊥

-- ---- the answers

-- What stands around a call: the words, what the files tell, and the counts of faults, what the sink tells and
-- the steps before the call and behind it.
pub record Around : Type 0 where
  pub words : List Bytes
  pub held : Option Held
  pub faults : ℕ
  pub faults_after : ℕ
  pub told : Option Stream
  pub told_after : Option Stream
  pub out_faults : ℕ
  pub out_faults_after : ℕ
  pub steps : ℕ
  pub steps_after : ℕ

-- where the files are told, this is the first refusal, and no load has failed
abbrev pub IsRefusal : Around → Status → Bytes → Type 0
IsRefusal a s name = IfTold a.held (AreRefusedAs a.words s name) × IsStill a.held a.faults a.faults_after s

-- the sink was sent the whole text, and each unit took a step
abbrev pub IsSentStepwise : Around → Plan → Type 0
IsSentStepwise a plan = IsSent a.told a.told_after plan × TakesUnits a.steps a.steps_after plan

-- the sink was sent a prefix of the text, and each unit took a step
abbrev pub IsPartlySentStepwise : Around → Plan → Type 0
IsPartlySentStepwise a plan = IsPartlySent a.told a.told_after plan × TakesUnits a.steps a.steps_after plan

-- each answer comes by its cause. A message that names a list file or a family has the name.
abbrev pub HasCause : Around → Status → Bytes → Type 0
HasCause a status.Ok name = IfTold a.held (HavePlan a.words (IsSentStepwise a)) × (a.faults_after ≡ a.faults) × (a.out_faults_after ≡ a.out_faults)
HasCause a status.WriteFault name = IfTold a.held (HavePlan a.words (IsPartlySentStepwise a)) × Rose a.out_faults a.out_faults_after × (a.faults_after ≡ a.faults)
HasCause a (status.Composite fault) name = IfTold a.held (IsStopped a.words fault) × (a.faults_after ≡ a.faults)
HasCause a status.ReadFault name = Rose a.faults a.faults_after
HasCause a status.OutOfMemory name = ⊤
HasCause a (status.Input fault) name = IsRefusal a (status.Input fault) name
HasCause a (status.Singular cause) name = IsRefusal a (status.Singular cause) name
HasCause a (status.RulesClash multipliers residue) name = IsRefusal a (status.RulesClash multipliers residue) name
HasCause a (status.TooMany what count) name = IsRefusal a (status.TooMany what count) name
HasCause a status.Usage name = AsksUsage a.words × IsRefusal a status.Usage name
HasCause a status.NotYet name = AsksUnserved a.words × IsRefusal a status.NotYet name

-- how a call ends: with its text sent, or with a refusal
abbrev pub HasEnded : Around → Result (Unit {0}) Refusal → Type 0
HasEnded a (Ok _) = HasCause a status.Ok []
HasEnded a (Err refusal) = (refusal.status ≢ status.Ok) × HasCause a refusal.status refusal.name

-- The usage line was sent and flushed, or a prefix of it was where the count rose.
abbrev pub HasShown : Status → Option Stream → Option Stream → ℕ → ℕ → Type 0
HasShown status.Ok before after faults faults_after = (after ≡ option_map (sent usage_line) before) × (faults_after ≡ faults)
HasShown status.WriteFault before after faults faults_after = IsPrefixSent usage_line before after × Rose faults faults_after
HasShown other before after faults faults_after = ⊥

-- the message of such a status names a list file or a family
abbrev pub Names : Status → Type 0
Names (status.Input fault) = ⊤
Names (status.Singular cause) = ⊤
Names s = ⊥

-- The message was written, or a prefix of it where the count rose. The name in it is that of the list file or of
-- the family at fault.
pub record IsExplained (words : List Bytes) (held : Option Held) (s : Status) (before after : Option Stream) (faults faults_after : ℕ) : Type 0 where
  pub name : Bytes
  pub told : IsToldOf (message_text (job_file words) (record { status = s; name = name })) before after faults faults_after
  pub named : Names s → IfTold held (AreRefusedAs words s name)

-- the two statuses are equal but for the vector or the multipliers that they show
abbrev pub IsAlike : Status → Status → Type 0
IsAlike (status.Singular (singular.RulesOpen vector)) s = (other : List ℕ) × (s ≡ status.Singular (singular.RulesOpen other))
IsAlike (status.Singular (singular.NotBasis family vector)) s = (other : List ℕ) × (s ≡ status.Singular (singular.NotBasis family other))
IsAlike (status.RulesClash multipliers residue) s = (others : List ℕ) × (other : ℕ) × (s ≡ status.RulesClash others other)
IsAlike one s = s ≡ one

-- The refusal is the answer, but for want of memory. Where the refusal is that an inverse isn't there, another step or
-- the reduction may answer first; and where the answer is that, it is a first refusal too. A prime has no such divisor.
abbrev pub IsAnsweredBy : List Bytes → Held → Status → Status → Type 0
IsAnsweredBy words held refusal s =
    IsAlike refusal s ⊎ ((s ≡ status.OutOfMemory) ⊎ (NamesDivisor words held refusal ⊎ (NamesDivisor words held s × AreRefused words s held)))
