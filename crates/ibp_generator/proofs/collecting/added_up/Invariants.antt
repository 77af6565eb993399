-- What was kept of the terms so far.
use Rattle.ibp_generator.proofs.CollectingLemmas.{Adding}
use Rattle.ibp_generator.proofs.collecting.added_up.Given as goal

abbrev pub invariant-loop-term : goal.invariant-loop-term
invariant-loop-term l = Adding l.modulus l.order l.sorted l.kept.items l.term-index
