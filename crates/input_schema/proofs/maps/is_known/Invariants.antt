use Rattle.std.proofs.Common.{◌≡◌, drop}
use Rattle.input_schema.specs.Maps as spec
use Rattle.input_schema.proofs.maps.is_known.Given as goal

abbrev pub invariant-loop-key : goal.invariant-loop-key
invariant-loop-key l = spec.is_known l.table l.pair ≡ spec.is_known (drop l.key-index l.table) l.pair
