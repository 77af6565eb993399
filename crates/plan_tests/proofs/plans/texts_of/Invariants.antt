use Rattle.std.proofs.Common.{◌≤◌, ◌^◌, All, length}
use Rattle.plan_tests.proofs.plans.texts_of.Given as goal

abbrev pub invariant-loop-list : goal.invariant-loop-list
invariant-loop-list l = All (λ text. length text.items ≤ 2 ^ 24) l.texts.items
