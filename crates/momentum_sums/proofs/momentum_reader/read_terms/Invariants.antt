use Rattle.std.proofs.Common.{◌≤◌, ◌-◌, List, length}
use Rattle.text_tokens.specs.declared.faults.TextKind.TheVariants.{BadMomentum}
use Rattle.text_tokens.specs.Tokens.{Token, tokens_of}
use Rattle.momentum_sums.specs.Momenta.{IsMomentumText, momentum_blame}
use Rattle.momentum_sums.specs.MomentumReader.{HasRead}
use Rattle.text_tokens.specs.Pieces.{rest_from}
use Rattle.text_tokens.proofs.Reading.{HasCome}
use Rattle.momentum_sums.proofs.momentum_reader.read_terms.Given as goal

abbrev pub invariant-loop-piece : goal.invariant-loop-piece
invariant-loop-piece l = record {
  within : l.from ≤ length l.bytes;
  before : List Token;
  short : length before ≤ l.from;
  come : HasCome IsMomentumText (momentum_blame l.names) BadMomentum (length l.bytes) (tokens_of l.bytes) before (rest_from l.bytes l.from);
  read : HasRead l.names before l.progress l.tallies;
}

abbrev pub decreases-loop-piece : goal.decreases-loop-piece
decreases-loop-piece l = length l.bytes - l.from
