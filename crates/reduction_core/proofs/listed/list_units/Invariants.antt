-- The units of the terms so far are listed.
use Rattle.reduction_core.specs.Opening.{AreListed}
use Rattle.reduction_core.proofs.OpeningLemmas.{IsOfTermBefore}
use Rattle.reduction_core.proofs.listed.list_units.Given as goal

abbrev pub invariant-loop-term : goal.invariant-loop-term
invariant-loop-term l = AreListed (IsOfTermBefore l.terms l.term-index) l.initial.units.items l.units.items
