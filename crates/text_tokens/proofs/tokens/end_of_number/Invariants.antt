use Rattle.std.proofs.Common.{length, ◌-◌, ◌≡◌, ◌≤◌, ◌<◌, drop}
use Rattle.std.specs.Prelude.{slice_range}
use Rattle.text_tokens.specs.Tokens.{nothing, in_number, tokens_from}
use Rattle.text_tokens.proofs.tokens.end_of_number.Given as goal

abbrev pub invariant-loop-end : goal.invariant-loop-end
invariant-loop-end l = record {
  forward : l.at < l.end;
  inside : l.end ≤ length l.bytes;
  run : tokens_from nothing l.at (drop l.at l.bytes) ≡ tokens_from (in_number l.at (slice_range l.bytes l.at l.end)) l.end (drop l.end l.bytes);
}

abbrev pub decreases-loop-end : goal.decreases-loop-end
decreases-loop-end l = length l.bytes - l.end
