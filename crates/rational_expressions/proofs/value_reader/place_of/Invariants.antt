use Rattle.std.proofs.Common.{◌≡◌, ◌+◌, drop}
use Rattle.text_tokens.specs.Names.{is_among}
use Rattle.rational_expressions.specs.Values.{place_of}
use Rattle.rational_expressions.proofs.value_reader.place_of.Given as goal

abbrev pub invariant-loop-i : goal.invariant-loop-i
invariant-loop-i l = record {
  among : is_among l.names l.word ≡ is_among (drop l.i l.names) l.word;
  place : place_of l.names l.word ≡ place_of (drop l.i l.names) l.word + l.i;
}
