-- What a call answers where a file or a word is refused. The project's own.
use Rattle.std.specs.Prelude.{Result, Ok, Err}
use Rattle.input_schema.specs.declared.faults.SchemaError.{SchemaError}
use Rattle.input_schema.specs.declared.faults.SchemaError.TheVariants as schema_error
use Rattle.input_schema.specs.Readings.{Reading}
use Rattle.job_point.specs.declared.faults.PlanError.{PlanError}
use Rattle.job_point.specs.declared.faults.PlanError.TheVariants.{Input, Singular, RulesClash, Composite, TooMany, OutOfMemory}
use Rattle.job_outline.specs.Outlines.{Outline}

-- the fault of a file or of a word as a fault of the input; want of memory stays
abbrev pub plan_error : SchemaError → PlanError
plan_error (schema_error.Fault fault) = Input fault
plan_error schema_error.OutOfMemory = OutOfMemory

-- the value of the answer, or its fault
abbrev pub plan_answer : {A : Type 0} → Result A SchemaError → Result A PlanError
plan_answer (Ok a) = Ok a
plan_answer (Err e) = Err (plan_error e)

-- the fault of the reading, or want of memory, and nothing else
abbrev pub OutlineRefuses : Reading Outline → PlanError → Type 0
OutlineRefuses reading (Input fault) = reading (Err fault)
OutlineRefuses reading OutOfMemory = Unit {0}
OutlineRefuses reading (Singular cause) = ⊥
OutlineRefuses reading (RulesClash multipliers residue) = ⊥
OutlineRefuses reading (Composite divisor) = ⊥
OutlineRefuses reading (TooMany what count) = ⊥

-- the value of the reading, or why there is none
abbrev pub OutlineAnswers : Reading Outline → Result Outline PlanError → Type 0
OutlineAnswers reading (Ok outline) = reading (Ok outline)
OutlineAnswers reading (Err e) = OutlineRefuses reading e
