use Rattle.table_text.proofs.DistinctLemmas.{Keeps}
use Rattle.table_text.proofs.distinct.without_repeats.Given as goal

abbrev pub invariant-loop-integral : goal.invariant-loop-integral
invariant-loop-integral l = Keeps l.order l.sorted l.kept.items l.integral-index
