use Rattle.std.proofs.Common.{inl, subst, sym}
use Rattle.std.specs.Prelude.{◌↔◌, List, Contains}
use Rattle.integral_index.specs.Integral.{Integral}
use Rattle.seed_sets.specs.Seeds.{IsSeedOfSome}
use Rattle.job_point.specs.declared.faults.Excess.TheVariants.{Selected}
use Rattle.job_point.proofs.StepLemmas.{refused}
use Rattle.job_outline.specs.Shapes.{shapes_of}
use Rattle.job_plan.specs.Gathering.{Gathers, IsSelected}
use Rattle.job_plan.proofs.GatheringLemmas.{meets_list, meets_same, refuses_of, selected_same}
use Rattle.job_plan.proofs.gathering.selection_of.Goals as goal

pub returns-in_err-seeds : goal.returns-in_err-seeds
returns-in_err-seeds c =
    let shapes = shapes_of c.args.families.now in
    refused (Gathers Selected (IsSelected c.args.specs.now shapes c.args.lists.now)) _ _ c.from_residual.ensures.1
    (refuses_of Selected (IsSeedOfSome c.args.specs.now shapes) (IsSelected c.args.specs.now shapes c.args.lists.now) (λ x seed. inl seed) _ c.in_err-seeds.ensures)

pub returns : goal.returns
returns c =
    let shapes = shapes_of c.args.families.now in
    let found = c.in_ok-found.found.items in
    let same : (x : Integral) → Contains found x ↔ IsSelected c.args.specs.now shapes c.args.lists.now x =
    subst (λ (xs : List Integral). (x : Integral) → Contains xs x ↔ IsSelected c.args.specs.now shapes c.args.lists.now x) (sym c.in_ok-found.ensures)
    (selected_same c.args.specs.now shapes c.args.lists.now _ (rw c.as_slice.ensures c.in_ok-seeds.ensures.members)) in
    rw c.told.ensures
    (meets_same Selected (Contains found) (IsSelected c.args.specs.now shapes c.args.lists.now) same _
    (meets_list Selected c.ascending.result (Contains found) c.ascending.ensures.ascends c.ascending.ensures.members c.ascending.ensures.few c.ascending.ensures.many))
