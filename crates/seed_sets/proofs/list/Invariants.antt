use Rattle.std.proofs.Common.{[]}
use Rattle.seed_sets.specs.Gathering.{Gains, IsBefore}
use Rattle.seed_sets.proofs.SpecLemmas.{IsSeedAt}
use Rattle.seed_sets.proofs.list.Given as goal

abbrev pub invariant-loop-spec : goal.invariant-loop-spec
invariant-loop-spec l = Gains [] l.found.items (IsBefore l.spec-index (IsSeedAt l.specs l.shapes))
