use Rattle.std.proofs.Common.{◌≡◌, drop}
use Rattle.input_schema.specs.Maps as spec
use Rattle.input_schema.proofs.maps.optional.Given as goal

abbrev pub invariant-loop-pair : goal.invariant-loop-pair
invariant-loop-pair l = spec.value_of l.pairs l.key ≡ spec.value_of (drop l.pair-index l.pairs) l.key
