use Rattle.std.proofs.Common.{◌≡◌, ◌<◌, ◌^◌, ◌+◌, ◌++◌, map, drop, length}
use Rattle.std.specs.String.{string_bytes}
use Rattle.command_line.specs.Places.{places, places_from}
use Rattle.command_line.proofs.places.places.Given as goal

abbrev pub invariant-loop-i : goal.invariant-loop-i
invariant-loop-i l =
    record {
      few : length l.words < 2 ^ 31;
      whole : places (map string_bytes l.words) ≡ l.found.items ++ places_from (l.i + 1) l.waits l.ended (map string_bytes (drop l.i l.words));
    }
