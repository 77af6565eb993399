use Rattle.std.proofs.Common.{◌∷◌, [], ◌++◌, take}
use Rattle.seed_sets.specs.Endings.{Continues, index_at, after}
use Rattle.seed_sets.specs.Gathering.{Gains, IsBefore}
use Rattle.seed_sets.proofs.endings.+extend.Given as goal

abbrev pub decreases-extend : goal.decreases-extend
decreases-extend l = l.rest.places

abbrev pub invariant-loop-step : goal.invariant-loop-step
invariant-loop-step l =
    Gains l.initial.found.items l.found.items (IsBefore l.step (λ k. Continues l.family (take l.place l.indices ++ index_at l.rest k ∷ []) (after l.rest k)))
