use Rattle.std.proofs.Common.{◌≡◌, drop}
use Rattle.std.specs.List.{list_any}
use Rattle.input_schema.specs.Maps.{lacks}
use Rattle.input_schema.proofs.maps.complete.Given as goal

abbrev pub invariant-loop-key : goal.invariant-loop-key
invariant-loop-key l = list_any (lacks l.pairs) l.table ≡ list_any (lacks l.pairs) (drop l.key-index l.table)
