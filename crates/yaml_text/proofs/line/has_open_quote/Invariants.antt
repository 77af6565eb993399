use Rattle.std.proofs.Common.{◌≡◌, take}
use Rattle.yaml_text.specs.Lines.{has_open_quote}
use Rattle.yaml_text.proofs.line.has_open_quote.Given as goal

abbrev pub invariant-loop-byte : goal.invariant-loop-byte
invariant-loop-byte l = l.quoted ≡ has_open_quote (take l.byte-index l.bare)
