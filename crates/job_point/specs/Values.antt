-- The values of the numeric point, and of expressions over the invariants. The project's own.
use Rattle.std.specs.Prelude.{◌≡◌, ℕ, if◌then◌else◌, Option, Some, None, List, [], ◌∷◌, Ok, Err}
use Rattle.std.specs.List.{insert}
use Rattle.rational_expressions.specs.declared.faults.ValueFault.{ValueFault}
use Rattle.rational_expressions.specs.declared.faults.ValueFault.TheVariants as value_fault
use Rattle.rational_expressions.specs.Trees.{Tree, number, negative, quotient}
use Rattle.rational_expressions.specs.Evaluation.{Outcome, HasOutcome}
use Rattle.input_schema.specs.declared.faults.File.{File}
use Rattle.job_schema.specs.declared.ratios.Divisor.{Divisor}
use Rattle.job_schema.specs.declared.ratios.Ratio.{Ratio}
use Rattle.job_schema.specs.declared.points.Setting.{Setting}
use Rattle.job_point.specs.declared.faults.PlanError.{PlanError}
use Rattle.job_point.specs.declared.faults.PlanError.TheVariants as plan_error
use Rattle.job_point.specs.declared.faults.Singular.TheVariants as singular
use Rattle.job_point.specs.declared.values.Values.{Values}
use Rattle.job_point.specs.Steps.{Answer, Step, Is, Then, Each}

-- ---- expressions

-- the fault of an expression that stands on this line of this file
abbrev pub fault_at : File → ℕ → ValueFault → PlanError
fault_at file line (value_fault.ZeroDivisor at) = plan_error.Singular (singular.ZeroDivisor file line at)
fault_at file line (value_fault.Composite fault) = plan_error.Composite fault

abbrev pub answer_of : File → ℕ → Outcome → Answer ℕ
answer_of file line (Ok value) = Ok value
answer_of file line (Err fault) = Err (fault_at file line fault)

-- The value modulo p of an expression on this line of this file, where the name at each place has the residue
-- at that place; or the fault of its first division that fails.
pub record IsValueAt (p : ℕ) (residues : List ℕ) (file : File) (line : ℕ) (value : Tree) (r : Answer ℕ) : Type 0 where
  pub outcome : Outcome
  pub is : HasOutcome p residues value outcome
  pub told : answer_of file line outcome ≡ r

-- ---- ratios

-- A ratio is valued as an expression: `-n/m` is the opposite of n over m, with the offset of its slash.
abbrev pub numerator_tree : Ratio → Tree
numerator_tree ratio = if ratio.is_negative then negative (number ratio.numerator) else number ratio.numerator

abbrev pub divided : Tree → Option Divisor → Tree
divided tree None = tree
divided tree (Some divisor) = quotient divisor.at tree (number divisor.number)

abbrev pub ratio_tree : Ratio → Tree
ratio_tree ratio = divided (numerator_tree ratio) ratio.divisor

-- the value of a parameter
abbrev pub IsSettingAt : ℕ → Setting → Step ℕ
IsSettingAt p setting = IsValueAt p [] setting.file setting.line (ratio_tree setting.ratio)

abbrev pub AreSettingsAt : ℕ → List Setting → Step (List ℕ)
AreSettingsAt p settings = Each (λ found setting. IsSettingAt p setting) [] settings

-- ---- the invariants and the dimension

-- the values of all invariants, where these are those of the others, and the symbol's is 1
abbrev pub with_symbol : Option ℕ → List ℕ → List ℕ
with_symbol None values = values
with_symbol (Some place) values = insert values place 1

-- The invariants but the symbol, in their order, and then the dimension, which is the first of the settings.
abbrev pub AreValuesAt : ℕ → Option ℕ → List Setting → Step Values
AreValuesAt p symbol [] r = ⊥
AreValuesAt p symbol (dimension ∷ others) r =
    Then (AreSettingsAt p others) (λ values.
    Then (IsSettingAt p dimension) (λ d.
    Is (Ok (record { residues = with_symbol symbol values; dimension = d })))) r
