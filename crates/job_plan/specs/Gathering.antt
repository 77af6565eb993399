-- The seeds and the selection of a job, up to their limits. The limits are the project's own; the rule for
-- seeds follows Kira, arXiv:1705.05610.
use Rattle.std.specs.Prelude.{◌≡◌, ◌↔◌, ◌⊎◌, ℕ, ◌+◌, ◌<◌, ◌≤◌, ◌^◌, List, length, Contains, Ok, Err}
use Rattle.yaml_text.specs.Lines.{Bytes}
use Rattle.integral_index.specs.Integral.{Integral}
use Rattle.integral_index.specs.declared.Order.TheVariants.{Standard}
use Rattle.seed_sets.specs.declared.Spec.{Spec}
use Rattle.seed_sets.specs.declared.Shape.{Shape}
use Rattle.seed_sets.specs.Seeds.{IsSeedOfSome, Ascends, AreMore}
use Rattle.job_point.specs.declared.faults.Excess.{Excess}
use Rattle.job_point.specs.declared.faults.Excess.TheVariants.{Seeds, Selected, Terms}
use Rattle.job_point.specs.declared.faults.PlanError.{PlanError}
use Rattle.job_point.specs.declared.faults.PlanError.TheVariants.{TooMany}
use Rattle.job_point.specs.Steps.{Step, Is, Then}
use Rattle.job_plan.specs.declared.gathering.Integrals.{Integrals}
use Rattle.job_outline.specs.Outlines.{Outline}
use Rattle.job_outline.specs.Shapes.{shapes_of}
use Rattle.job_plan.specs.Shapes.{terms_of}
use Rattle.job_plan.specs.ListFiles.{AreListsRead}

-- the most seeds, and the most selected integrals
abbrev pub most_integrals : ℕ
most_integrals = 2 ^ 17

-- the most terms, as the bound counts them
abbrev pub most_terms : ℕ
most_terms = 2 ^ 24

-- the integral is named by one of these lists
pub record IsListed (lists : List (List Integral)) (x : Integral) : Type 0 where
  pub list : List Integral
  pub is : Contains lists list
  pub named : Contains list x

-- The integral is selected: it is a seed of one of the selected specs, or a list file names it. One that a
-- list file names may be of a zero sector.
abbrev pub IsSelected : List Spec → List Shape → List (List Integral) → Integral → Type 0
IsSelected specs shapes lists x = IsSeedOfSome specs shapes x ⊎ IsListed lists x

-- the list of all integrals of a kind, ascending, each once
pub record AreAll (Kind : Integral → Type 0) (list : List Integral) : Type 0 where
  pub ascends : Ascends Standard list
  pub members : (x : Integral) → Contains list x ↔ Kind x
  pub few : length list ≤ most_integrals

-- there are more of a kind than may be, which is told as one more
abbrev pub HasExcess : Excess → (Integral → Type 0) → PlanError → Type 0
HasExcess what Kind (TooMany found count) = (found ≡ what) × (count ≡ most_integrals + 1) × AreMore Standard most_integrals Kind
HasExcess what Kind _ = ⊥

-- all integrals of a kind, or that there are too many
abbrev pub Gathers : Excess → (Integral → Type 0) → Step (List Integral)
Gathers what Kind (Ok list) = AreAll Kind list
Gathers what Kind (Err e) = HasExcess what Kind e

-- too many terms are told as they are
abbrev pub HasManyTerms : ℕ → PlanError → Type 0
HasManyTerms terms (TooMany found count) = (found ≡ Terms) × (count ≡ terms) × (most_terms < terms)
HasManyTerms terms _ = ⊥

-- few terms, or that there are too many
abbrev pub AreFewTerms : ℕ → Step (Unit {0})
AreFewTerms terms (Ok _) = terms ≤ most_terms
AreFewTerms terms (Err e) = HasManyTerms terms e

-- The integrals of a job whose list files have these texts. The list files are read, in order; then the seeds
-- of the specs under `reduce` are gathered, and then the selection; and the terms of the seeds are few.
abbrev pub AreIntegrals : Outline → List Bytes → Step Integrals
AreIntegrals outline texts =
    Then (AreListsRead outline.families outline.select.files texts) (λ lists.
    Then (Gathers Seeds (IsSeedOfSome outline.reduce (shapes_of outline.families))) (λ seeds.
    Then (Gathers Selected (IsSelected outline.select.specs (shapes_of outline.families) lists)) (λ selection.
    Then (AreFewTerms (terms_of outline.kinematics outline.families seeds)) (λ _.
    Is (Ok (record { seeds = seeds; selection = selection }))))))
