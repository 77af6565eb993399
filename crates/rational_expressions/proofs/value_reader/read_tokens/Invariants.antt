use Rattle.std.proofs.Common.{◌≤◌, ◌-◌, List, length}
use Rattle.text_tokens.specs.declared.faults.TextKind.TheVariants.{BadExpression}
use Rattle.text_tokens.specs.Tokens.{Token, tokens_of}
use Rattle.rational_expressions.specs.Values.{IsValueText, value_blame}
use Rattle.text_tokens.specs.Pieces.{rest_from}
use Rattle.rational_expressions.specs.ValueItems.{HasRead}
use Rattle.text_tokens.proofs.Reading.{HasCome}
use Rattle.rational_expressions.proofs.value_reader.read_tokens.Given as goal

abbrev pub invariant-loop-piece : goal.invariant-loop-piece
invariant-loop-piece l = record {
  within : l.from ≤ length l.bytes;
  before : List Token;
  come : HasCome IsValueText (value_blame l.names) BadExpression (length l.bytes) (tokens_of l.bytes) before (rest_from l.bytes l.from);
  read : HasRead l.names before l.reader;
}

abbrev pub decreases-loop-piece : goal.decreases-loop-piece
decreases-loop-piece l = length l.bytes - l.from
