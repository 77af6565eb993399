use Rattle.std.proofs.Common.{◌≡◌, map, drop}
use Rattle.std.specs.Ordering.{nat_cmp}
use Rattle.std.specs.Cmp.Lexicographic.{slice_cmp}
use Rattle.std.specs.FinMap.{find, get}
use Rattle.kira_outside.specs.MemoryState.{named, held_of}
use Rattle.kira_outside.proofs.memory_files.find_entry.Given as goal

abbrev pub invariant-loop-entry : goal.invariant-loop-entry
invariant-loop-entry l =
    get (held_of l.entries) l.name ≡ find (slice_cmp nat_cmp) l.name (map named (drop l.entry-index l.entries))
