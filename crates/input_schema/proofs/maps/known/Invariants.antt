use Rattle.std.proofs.Common.{◌≡◌, drop}
use Rattle.input_schema.specs.Maps as spec
use Rattle.input_schema.proofs.maps.known.Given as goal

abbrev pub invariant-loop-pair : goal.invariant-loop-pair
invariant-loop-pair l = spec.known l.file l.table l.pairs ≡ spec.known l.file l.table (drop l.pair-index l.pairs)
