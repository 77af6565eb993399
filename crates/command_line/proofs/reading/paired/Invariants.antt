use Rattle.std.proofs.Common.{◌≡◌, ◌++◌, true, map, drop}
use Rattle.std.specs.List.{list_all}
use Rattle.command_line.specs.Request.{is_short, is_short_word, placed, seen_word}
use Rattle.command_line.proofs.reading.paired.Given as goal

abbrev pub invariant-loop-i : goal.invariant-loop-i
invariant-loop-i l =
    record {
      rest : list_all is_short (map (λ text. text.now) (drop l.i l.texts)) ≡ true;
      short : list_all is_short_word l.found.items ≡ true;
      whole : placed (drop 1 l.places) (map (λ text. text.now) (drop 1 l.texts)) ≡ map seen_word l.found.items ++ placed (drop l.i l.places) (map (λ text. text.now) (drop l.i l.texts));
    }
