-- The laws of the back substitution.
use Rattle.back_substitute.proofs.OnlyOne.{one_substitution}
use Rattle.back_substitute.proofs.Longer.{nothing_new}
use Rattle.back_substitute.proofs.laws.substitution_is_determined.Goals as goal

pub returns-clause-rows : goal.returns-clause-rows
returns-clause-rows c = one_substitution

pub returns-clause-nothing_new : goal.returns-clause-nothing_new
returns-clause-nothing_new c = nothing_new
