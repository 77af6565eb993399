use Rattle.std.proofs.lemmas.Slice.Zip.{AllZip-long}
use Rattle.std.proofs.Common.{map}
use Rattle.job_plan.proofs.PlanLemmas.{at_modulus}
use Rattle.job_plan.proofs.SeedLemmas.{integrals_kept}
use Rattle.job_plan.proofs.planner.plan.Goals as goal

pub plan_of-requires-clause-bases : goal.plan_of-requires-clause-bases
plan_of-requires-clause-bases c = AllZip-long _ c.families-families.result.now c.in_ok-at.at.bases c.in_ok-at.ensures.bases

pub plan_of-requires-clause-moduli : goal.plan_of-requires-clause-moduli
plan_of-requires-clause-moduli c = rw c.in_ok-at.ensures.modulus (at_modulus _ _ c.families-families.result.now c.in_ok-at.at.bases c.in_ok-at.ensures.bases)

pub plan_of-requires-clause-seeds : goal.plan_of-requires-clause-seeds
plan_of-requires-clause-seeds c =
    (integrals_kept c.args.outline.now (map (λ text. text.items) c.args.lists.now) c.in_ok-integrals.integrals _ _ c.in_ok-at.at.bases c.families-families.ensures.sound
    (rw c.families-families.ensures.value at c.in_ok-at.ensures.bases) c.in_ok-integrals.ensures).seeds

pub plan_of-requires-clause-selection : goal.plan_of-requires-clause-selection
plan_of-requires-clause-selection c =
    (integrals_kept c.args.outline.now (map (λ text. text.items) c.args.lists.now) c.in_ok-integrals.integrals _ _ c.in_ok-at.at.bases c.families-families.ensures.sound
    (rw c.families-families.ensures.value at c.in_ok-at.ensures.bases) c.in_ok-integrals.ensures).selection

pub plan_of-requires-clause-ascends : goal.plan_of-requires-clause-ascends
plan_of-requires-clause-ascends c =
    (integrals_kept c.args.outline.now (map (λ text. text.items) c.args.lists.now) c.in_ok-integrals.integrals _ _ c.in_ok-at.at.bases c.families-families.ensures.sound
    (rw c.families-families.ensures.value at c.in_ok-at.ensures.bases) c.in_ok-integrals.ensures).ascends

pub plan_of-requires-clause-symmetries : goal.plan_of-requires-clause-symmetries
plan_of-requires-clause-symmetries c = c.in_ok-at.ensures.symmetries
