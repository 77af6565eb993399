use Rattle.std.proofs.Common.{◌≡◌, ◌+◌, drop}
use Rattle.text_tokens.specs.Names.{is_among}
use Rattle.rational_expressions.specs.Values.{place_of}
use Rattle.input_schema.proofs.names.place_among.Given as goal

abbrev pub invariant-loop-i : goal.invariant-loop-i
invariant-loop-i l = record {
  among : is_among l.names l.text ≡ is_among (drop l.i l.names) l.text;
  place : place_of l.names l.text ≡ place_of (drop l.i l.names) l.text + l.i;
}
