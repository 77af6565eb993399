use Rattle.std.proofs.Common.{◌≡◌, length}
use Rattle.std.specs.List.{list_all}
use Rattle.list_schema.specs.Indices.{pieces, is_index}
use Rattle.list_schema.proofs.indices.are_indices.Given as goal

abbrev pub invariant-loop-behind : goal.invariant-loop-behind
invariant-loop-behind l = list_all is_index (pieces l.text) ≡ list_all is_index (pieces l.rest)

abbrev pub decreases-loop-behind : goal.decreases-loop-behind
decreases-loop-behind l = length l.rest
