use Rattle.seed_sets.specs.Seeds.{IsSeedOfSome}
use Rattle.job_outline.specs.Shapes.{shapes_of}
use Rattle.job_plan.proofs.ShapeLemmas.{shapes_wide, specs_fit, same_seeds}
use Rattle.job_plan.proofs.GatheringLemmas.{meets_list, meets_same}
use Rattle.job_plan.proofs.gathering.seeds_of.Goals as goal

pub list-requires-clause-widths : goal.list-requires-clause-widths
list-requires-clause-widths c = shapes_wide c.args.families.now c.args.shapes.now c.requires.shapes c.requires.some c.requires.narrow

pub list-requires-clause-fitting : goal.list-requires-clause-fitting
list-requires-clause-fitting c = specs_fit c.args.families.now c.args.shapes.now c.requires.shapes c.args.specs.now c.requires.fitting

pub returns : goal.returns
returns c =
    rw c.told.ensures
    (meets_same c.args.what (IsSeedOfSome c.args.specs.now c.args.shapes.now) (IsSeedOfSome c.args.specs.now (shapes_of c.args.families.now)) (same_seeds c.args.families.now c.args.shapes.now c.requires.shapes c.args.specs.now) _
    (meets_list c.args.what c.list.result (IsSeedOfSome c.args.specs.now c.args.shapes.now) c.list.ensures.ascends c.list.ensures.members c.list.ensures.few c.list.ensures.many))
