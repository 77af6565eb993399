-- No pivot of a rule so far is shown.
use Rattle.std.proofs.Common.{All, take}
use Rattle.reduction_core.specs.Acceptance.{IsClearOf}
use Rattle.reduction_core.proofs.acceptance.shows_no_pivot_of.Given as goal

abbrev pub invariant-loop-rule : goal.invariant-loop-rule
invariant-loop-rule l = All (λ rule. IsClearOf l.order rule l.row) (take l.rule-index l.rules)
