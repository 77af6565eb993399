use Rattle.std.proofs.Common.{◌≡◌, ◌<◌, [], drop, length, All}
use Rattle.input_schema.specs.declared.faults.File.TheVariants.{Jobs}
use Rattle.input_schema.specs.Names.{reference}
use Rattle.input_schema.specs.Readings.{each}
use Rattle.job_schema.proofs.groups.topologies.Given as goal

abbrev pub invariant-loop-item : goal.invariant-loop-item
invariant-loop-item l =
    (each (λ node. reference Jobs node l.names) [] l.nodes ≡ each (λ node. reference Jobs node l.names) l.places (drop l.item-index l.nodes))
    × All (λ place. place < length l.names) l.places × (l.item-index ≡ length l.places)
