use Rattle.std.proofs.Common.{◌∙◌, map, ap}
use Rattle.job_point.proofs.StepLemmas.{refused}
use Rattle.job_plan.specs.Gathering.{AreIntegrals}
use Rattle.job_schema.specs.declared.selections.Selection.{Selection}
use Rattle.job_plan.proofs.GatheringLemmas.{integrals_found, integrals_refused, seeds_placed}
use Rattle.job_plan.proofs.gathering.integrals_of.Goals as goal

pub test_terms-requires-clause-seeds : goal.test_terms-requires-clause-seeds
test_terms-requires-clause-seeds c = rw c.as_slice-4.ensures (seeds_placed c.families-families.result.now _ _ c.in_ok-seeds.ensures)

pub returns-in_err-test_terms : goal.returns-in_err-test_terms
returns-in_err-test_terms c =
    let outline = c.args.outline.now in
    let files = c.as_slice.ensures ∙ ap (λ (s : Selection). s.files) c.select.ensures in
    let reduce = c.reduce-reduce.ensures in
    let specs = c.as_slice-2.ensures ∙ ap (λ (s : Selection). s.specs) c.select.ensures in
    refused (AreIntegrals outline (map (λ text. text.items) c.args.texts.now)) _ _ c.from_residual-in_err-test_terms.ensures.1
    (integrals_refused outline (map (λ text. text.items) c.args.texts.now) c.in_ok-lists.lists c.in_ok-seeds.seeds c.in_ok-selection.selection
    (record {
      read = rw (c.families-families.ensures.value, files) at c.in_ok-lists.ensures;
      seeded = rw (c.families-families.ensures.value, reduce) at c.in_ok-seeds.ensures;
      selected = rw (c.families-families.ensures.value, specs, c.as_slice-3.ensures) at c.in_ok-selection.ensures;
    }) _ (rw (c.families-families.ensures.value, c.kinematics.ensures.value, c.as_slice-4.ensures) at c.in_err-test_terms.ensures))

pub returns : goal.returns
returns c =
    let outline = c.args.outline.now in
    let files = c.as_slice.ensures ∙ ap (λ (s : Selection). s.files) c.select.ensures in
    let reduce = c.reduce-reduce.ensures in
    let specs = c.as_slice-2.ensures ∙ ap (λ (s : Selection). s.specs) c.select.ensures in
    integrals_found outline (map (λ text. text.items) c.args.texts.now) c.in_ok-lists.lists c.in_ok-seeds.seeds c.in_ok-selection.selection
    (record {
      read = rw (c.families-families.ensures.value, files) at c.in_ok-lists.ensures;
      seeded = rw (c.families-families.ensures.value, reduce) at c.in_ok-seeds.ensures;
      selected = rw (c.families-families.ensures.value, specs, c.as_slice-3.ensures) at c.in_ok-selection.ensures;
    }) (rw (c.families-families.ensures.value, c.kinematics.ensures.value, c.as_slice-4.ensures) at c.in_ok-test_terms.ensures)
