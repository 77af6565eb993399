use Rattle.std.proofs.Common.{◌≡◌, ◌++◌, true, map, drop}
use Rattle.std.specs.List.{list_all}
use Rattle.command_line.specs.Request.{is_short_word, seen_word}
use Rattle.kira_app.specs.Words.{override_of}
use Rattle.kira_app.proofs.words.overrides.Given as goal

abbrev pub invariant-loop-word : goal.invariant-loop-word
invariant-loop-word l =
    record {
      rest : list_all is_short_word (drop l.word-index l.words) ≡ true;
      whole : map override_of (map seen_word l.words) ≡ l.found.items ++ map override_of (map seen_word (drop l.word-index l.words));
    }
