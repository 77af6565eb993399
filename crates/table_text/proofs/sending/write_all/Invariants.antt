use Rattle.std.proofs.Common.{◌≡◌, ◌≤◌, ◌-◌, length, take, option_map}
use Rattle.kira_outside.specs.Stream.{appended}
use Rattle.table_text.proofs.sending.write_all.Given as goal

abbrev pub invariant-loop-written : goal.invariant-loop-written
invariant-loop-written g l =
    record {
      within : l.written ≤ length l.bytes;
      told : g.O.Sink.told l.out ≡ option_map (appended (take l.written l.bytes)) (g.O.Sink.told l.initial.out);
      count : g.O.Sink.faults l.out ≡ g.O.Sink.faults l.initial.out;
    }

abbrev pub decreases-loop-written : goal.decreases-loop-written
decreases-loop-written g l = length l.initial.bytes - l.written
