use Rattle.std.proofs.Common.{◌≡◌, ◌∙◌, length, sym}
use Rattle.std.proofs.lemmas.Slice.Zip.{AllZip-long}
use Rattle.job_plan.specs.Plans.{AreZerosOf}
use Rattle.job_outline.proofs.NameLemmas.{named_all}
use Rattle.job_plan.proofs.planner.plan_of.Goals as goal

pub invariant_of-result : goal.invariant_of-result
invariant_of-result c =
    let names : length c.in_ok-names.names.items ≡ length c.args.families.now = named_all c.args.families.now c.in_ok-names.names.items c.in_ok-names.ensures in
    record {
      few = rw names c.requires.few;
      zeros_of_all = AllZip-long AreZerosOf c.args.families.now c.in_ok-zeros.zeros c.in_ok-zeros.ensures ∙ sym names;
      bases_of_all = c.requires.bases ∙ sym names;
      dimension_below = c.requires.dimension;
      moduli = c.requires.moduli;
      symmetries_of_all = c.requires.symmetries;
      seeds = c.requires.seeds;
      selection = c.requires.selection;
      ascends = c.requires.ascends;
    }
