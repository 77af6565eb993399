use Rattle.std.proofs.Common.{◌≡◌, map, drop}
use Rattle.std.specs.List.{list_all}
use Rattle.std.specs.String.{string_bytes}
use Rattle.command_line.specs.Request.{is_short}
use Rattle.command_line.proofs.reading.all_short.Given as goal

abbrev pub invariant-loop-word : goal.invariant-loop-word
invariant-loop-word l =
    record {
      rest : list_all is_short (map string_bytes l.words) ≡ list_all is_short (map string_bytes (drop l.word-index l.words));
    }
