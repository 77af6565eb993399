use Rattle.job_plan.proofs.ShapeLemmas.{equation_shapes}
use Rattle.job_plan.proofs.terms.test_terms.Goals as goal

pub term_bound-requires-clause-shapes : goal.term_bound-requires-clause-shapes
term_bound-requires-clause-shapes c =
    rw (c.deref.ensures.value, c.in_ok-shapes.ensures) (equation_shapes c.args.kinematics.now c.args.families.now c.requires.kinematics c.requires.families)
