use Rattle.seed_sets.specs.Gathering.{Gains, IsBefore}
use Rattle.seed_sets.specs.Sectors.{IsOfSector}
use Rattle.seed_sets.proofs.specs.add_spec.Given as goal

abbrev pub invariant-loop-sector : goal.invariant-loop-sector
invariant-loop-sector l = Gains l.initial.found.items l.found.items (IsBefore l.sector (IsOfSector l.spec l.shape))
