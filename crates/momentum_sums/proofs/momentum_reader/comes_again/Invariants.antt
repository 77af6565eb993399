use Rattle.std.proofs.Common.{◌≡◌, ◌≤◌, ◌-◌, length}
use Rattle.std.specs.List.{list_any}
use Rattle.text_tokens.specs.Faults.{tokens_in}
use Rattle.momentum_sums.specs.Momenta.{is_named}
use Rattle.text_tokens.specs.Pieces.{rest_from}
use Rattle.momentum_sums.proofs.momentum_reader.comes_again.Given as goal

abbrev pub invariant-loop-piece : goal.invariant-loop-piece
invariant-loop-piece l = record {
  within : l.at ≤ length l.bytes;
  rest : list_any (is_named l.word) (tokens_in (rest_from l.bytes l.from)) ≡ list_any (is_named l.word) (tokens_in (rest_from l.bytes l.at));
}

abbrev pub decreases-loop-piece : goal.decreases-loop-piece
decreases-loop-piece l = length l.bytes - l.at
