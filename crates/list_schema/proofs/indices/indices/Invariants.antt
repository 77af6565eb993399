use Rattle.std.proofs.Common.{◌≡◌, ◌+◌, [], length, All}
use Rattle.integral_index.specs.Integral.{IsIndex}
use Rattle.input_schema.specs.Readings.{each}
use Rattle.list_schema.specs.Indices.{pieces, index}
use Rattle.list_schema.proofs.indices.indices.Given as goal

abbrev pub invariant-loop-found : goal.invariant-loop-found
invariant-loop-found l = record {
  so_far : each (index l.file l.line) [] (pieces l.text) ≡ each (index l.file l.line) l.found (pieces l.rest);
  count : length l.found + length (pieces l.rest) ≡ length (pieces l.text);
  small : All IsIndex l.found;
}

abbrev pub decreases-loop-found : goal.decreases-loop-found
decreases-loop-found l = length l.rest
