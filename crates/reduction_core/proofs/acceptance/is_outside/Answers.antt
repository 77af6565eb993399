-- An empty row is none of the rest.
use Rattle.sector_forward.specs.Elimination.{IsOutside}
use Rattle.reduction_core.proofs.CheckLemmas.{never}
use Rattle.reduction_core.proofs.acceptance.is_outside.Goals as goal

pub returns-then-is_empty : goal.returns-then-is_empty
returns-then-is_empty c =
    never (IsOutside c.args.modulus.now c.args.order c.args.unit c.args.row.now) (λ outside. outside.some (c.is_empty.ensures.0 c.if-is_empty.true))
