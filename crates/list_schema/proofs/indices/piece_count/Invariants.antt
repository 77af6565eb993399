use Rattle.std.proofs.Common.{◌≡◌, ◌≤◌, ◌+◌, length, drop}
use Rattle.list_schema.specs.Indices.{pieces}
use Rattle.list_schema.proofs.indices.piece_count.Given as goal

abbrev pub invariant-loop-byte : goal.invariant-loop-byte
invariant-loop-byte l =
    (l.count + length (pieces (drop l.byte-index l.text)) ≡ length (pieces l.text) + 1) × (l.count ≤ l.byte-index + 1)
