-- The greatest integral of a row with a pivot is that pivot.
use Rattle.std.proofs.Common.{◌∙◌}
use Rattle.sector_forward.proofs.StepLemmas.{pivot_compared}
use Rattle.sector_forward.proofs.steps.compare_pivot.Goals as goal

pub returns : goal.returns
returns c = λ y pivot. c.compare.ensures ∙ pivot_compared c.args.order c.args.row.now.order c.args.row.now c.in-Some.pivot.now c.args.x.now y c.requires.ordered c.in-Some.ensures pivot
