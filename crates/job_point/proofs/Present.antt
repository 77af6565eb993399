-- No step of the numeric point says that a file is missing.
use Rattle.std.proofs.Common.{◌≡◌, ℕ, Option, List, [], ◌∷◌, ◌++◌, Result, Ok, Err, sym, subst}
use Rattle.rational_expressions.specs.declared.faults.ValueFault.TheVariants as value_fault
use Rattle.kinematics.specs.declared.rules.Rule.{Rule}
use Rattle.rational_expressions.specs.Evaluation.{Outcome}
use Rattle.kinematics.specs.Points.{Point}
use Rattle.rational_expressions.specs.Trees.{Tree}
use Rattle.propagators.specs.declared.denominators.Denominator.{Denominator}
use Rattle.propagators.specs.Basis.{Basis}
use Rattle.input_schema.specs.declared.faults.File.{File}
use Rattle.input_schema.specs.declared.faults.InputFault.{InputFault}
use Rattle.input_schema.specs.Readings.{IsNotMissing}
use Rattle.kinematics_schema.specs.declared.content.Kinematics.{Kinematics}
use Rattle.family_schema.specs.declared.content.Family.{Family}
use Rattle.family_schema.specs.declared.content.Symmetry.{Symmetry as Map}
use Rattle.job_schema.specs.declared.points.Setting.{Setting}
use Rattle.job_point.specs.declared.faults.PlanError.TheVariants.{Input, Singular, RulesClash, Composite, TooMany, OutOfMemory}
use Rattle.job_point.specs.Steps.{Answer, Step, Is, After, Then, Each, NeverSaysMissing}
use Rattle.job_point.specs.Values.{answer_of, IsValueAt, AreSettingsAt, AreValuesAt}
use Rattle.job_point.specs.Point.{IsRuleAt, AreRulesAt, IsPointFor, IsPointAt, IsDenominatorAt, AreDenominatorsAt, IsBasisFor, IsSymmetryAt, AreSymmetriesAt, IsFamilyAt, AreFamiliesAt}
use Rattle.job_point.specs.Laws.{PointsNeverSayMissing}

-- ---- steps

-- the answer isn't the fault that a file is missing
abbrev pub IsPresent : {A : Type 0} → Answer A → Type 0
IsPresent (Err (Input fault)) = IsNotMissing fault.kind
IsPresent other = Unit {0}

pub is_present : {A : Type 0} (answer : Answer A) → IsPresent answer → NeverSaysMissing (Is answer)
is_present {A} answer h fault e = subst (λ (r : Answer A). IsPresent r) e h

never_at : {A : Type 0} (step : Step A) (answer : Answer A) → NeverSaysMissing step → step answer → IsPresent answer
never_at step (Ok a) h is = tt
never_at step (Err (Input fault)) h is = h fault is
never_at step (Err (Singular cause)) h is = tt
never_at step (Err (RulesClash multipliers residue)) h is = tt
never_at step (Err (Composite fault)) h is = tt
never_at step (Err (TooMany what count)) h is = tt
never_at step (Err OutOfMemory) h is = tt

never_after : {A B : Type 0} (next : A → Step B) (answer : Answer A) → IsPresent answer → ((a : A) → NeverSaysMissing (next a)) → NeverSaysMissing (After answer next)
never_after next (Ok a) h k fault e = k a fault e
never_after {A} {B} next (Err (Input x)) h k fault e = subst (λ (r : Answer B). IsPresent r) (sym e) h
never_after {A} {B} next (Err (Singular cause)) h k fault e = subst (λ (r : Answer B). IsPresent r) (sym e) tt
never_after {A} {B} next (Err (RulesClash multipliers residue)) h k fault e = subst (λ (r : Answer B). IsPresent r) (sym e) tt
never_after {A} {B} next (Err (Composite x)) h k fault e = subst (λ (r : Answer B). IsPresent r) (sym e) tt
never_after {A} {B} next (Err (TooMany what count)) h k fault e = subst (λ (r : Answer B). IsPresent r) (sym e) tt
never_after {A} {B} next (Err OutOfMemory) h k fault e = subst (λ (r : Answer B). IsPresent r) (sym e) tt

pub then_present : {A B : Type 0} (first : Step A) (next : A → Step B) → NeverSaysMissing first → ((a : A) → NeverSaysMissing (next a)) → NeverSaysMissing (Then first next)
then_present first next h k fault parts = never_after next parts.answer (never_at first parts.answer h parts.is) k fault parts.after

pub each_present : {N A : Type 0} (step : List A → N → Step A) → ((found : List A) (item : N) → NeverSaysMissing (step found item)) → (found : List A) (items : List N) → NeverSaysMissing (Each step found items)
each_present {N} {A} step h found [] = λ fault e. subst (λ (r : Answer (List A)). IsPresent r) (sym e) tt
each_present step h found (item ∷ items) =
    then_present (step found item) (λ a. Each step (found ++ a ∷ []) items) (h found item) (λ a. each_present step h (found ++ a ∷ []) items)

-- ---- values

answer_present : (file : File) (line : ℕ) (outcome : Outcome) → IsPresent (answer_of file line outcome)
answer_present file line (Ok value) = tt
answer_present file line (Err (value_fault.ZeroDivisor at)) = tt
answer_present file line (Err (value_fault.Composite fault)) = tt

value_present : (p : ℕ) (residues : List ℕ) (file : File) (line : ℕ) (value : Tree) → NeverSaysMissing (IsValueAt p residues file line value)
value_present p residues file line value fault h = subst (λ (r : Answer ℕ). IsPresent r) h.told (answer_present file line h.outcome)

settings_present : (p : ℕ) (settings : List Setting) → NeverSaysMissing (AreSettingsAt p settings)
settings_present p settings = each_present _ (λ found setting. value_present _ _ _ _ _) [] settings

values_present : (p : ℕ) (symbol : Option ℕ) (settings : List Setting) → NeverSaysMissing (AreValuesAt p symbol settings)
values_present p symbol [] = λ fault h. absurd h
values_present p symbol (dimension ∷ others) =
    then_present _ _ (settings_present p others) (λ values. then_present _ _ (value_present _ _ _ _ _) (λ d. is_present _ tt))

-- ---- the rules and the families

point_present : (p : ℕ) (residues : List ℕ) (kinematics : Kinematics) → NeverSaysMissing (IsPointAt p residues kinematics)
point_present p residues kinematics =
    then_present _ _ (each_present _ (λ found rule. then_present _ _ (value_present _ _ _ _ _) (λ value. is_present _ tt)) [] kinematics.rules) (λ rules fault h. absurd h)

denominators_present : (p : ℕ) (residues : List ℕ) (family : Family) → NeverSaysMissing (AreDenominatorsAt p residues family.propagators)
denominators_present p residues family =
    each_present _ (λ found propagator. then_present _ _ (value_present _ _ _ _ _) (λ mass. is_present _ tt)) [] family.propagators

symmetry_present : (basis : Basis) (symmetry : Map) → NeverSaysMissing (IsSymmetryAt basis symmetry)
symmetry_present basis symmetry fault h = subst (λ (f : InputFault). IsNotMissing f.kind) (sym h.told) tt

family_present : (p : ℕ) (residues : List ℕ) (point : Point) (number : ℕ) (family : Family) → NeverSaysMissing (IsFamilyAt p residues point number family)
family_present p residues point number family =
    then_present _ _ (denominators_present p residues family) (λ denominators.
    then_present _ _ (λ fault h. absurd h) (λ basis.
    then_present _ _ (each_present _ (λ found symmetry. symmetry_present basis symmetry) [] family.symmetries) (λ symmetries. is_present _ tt)))

pub points_present : PointsNeverSayMissing
points_present p kinematics families settings =
    then_present _ _ (values_present p kinematics.symbol settings) (λ values.
    then_present _ _ (point_present p values.residues kinematics) (λ point.
    then_present _ _ (then_present _ _ (each_present _ (λ found family. family_present _ _ _ _ family) [] families) (λ found. is_present _ tt)) (λ found. is_present _ tt)))
