use Rattle.std.proofs.Common.{◌≡◌, map, drop}
use Rattle.std.specs.List.{list_all}
use Rattle.command_line.specs.Request.{is_short}
use Rattle.command_line.proofs.reading.are_short_texts.Given as goal

abbrev pub invariant-loop-text : goal.invariant-loop-text
invariant-loop-text l =
    record {
      rest : list_all is_short (map (λ text. text.now) l.texts) ≡ list_all is_short (map (λ text. text.now) (drop l.text-index l.texts));
    }
