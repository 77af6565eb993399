use Rattle.job_outline.proofs.Present.{outlines_present}
use Rattle.job_outline.proofs.laws.outlines_never_say_missing.Goals as goal

pub returns : goal.returns
returns c =
    outlines_present c.reading_never_says_missing.ensures c.reading_never_says_missing-2.ensures c.reading_never_says_missing-3.ensures.jobs c.reading_never_says_missing-3.ensures.points
