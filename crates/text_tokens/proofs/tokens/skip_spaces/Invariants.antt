use Rattle.std.proofs.Common.{length, ◌-◌, ◌≡◌, ◌≤◌, drop}
use Rattle.text_tokens.specs.Tokens.{nothing, tokens_from}
use Rattle.text_tokens.proofs.tokens.skip_spaces.Given as goal

abbrev pub invariant-loop-at : goal.invariant-loop-at
invariant-loop-at l = record {
  forward : l.from ≤ l.at;
  within : l.at ≤ length l.bytes;
  skipped : tokens_from nothing l.from (drop l.from l.bytes) ≡ tokens_from nothing l.at (drop l.at l.bytes);
}

abbrev pub decreases-loop-at : goal.decreases-loop-at
decreases-loop-at l = length l.bytes - l.at
