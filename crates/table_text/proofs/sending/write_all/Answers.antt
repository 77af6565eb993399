use Rattle.std.proofs.Common.{◌-◌, ◌∙◌, ap, arith, length, take, drop, option_map, length-drop}
use Rattle.kira_outside.specs.Stream.{appended}
use Rattle.table_text.proofs.SendingLemmas.{rest-drop, appended-take-add}
use Rattle.table_text.proofs.sending.write_all.Goals as goal

pub loop-written-preserved : goal.loop-written-preserved
loop-written-preserved g c =
    record {
      within = omega (arith, c.in-Ok.ensures.within, ap length (rest-drop c.loop-written.written c.args.bytes.now), length-drop c.loop-written.written c.args.bytes.now);
      told =
          c.in-Ok.ensures.written
          ∙ ap (option_map (appended (take c.in-Ok.count (take (length c.args.bytes.now - c.loop-written.written) (drop c.loop-written.written c.args.bytes.now))))) c.loop-written.invariant.told
          ∙ appended-take-add c.loop-written.written c.in-Ok.count c.args.bytes.now (g.O.Sink.told c.args.out.now);
      count = c.in-Ok.ensures.ok_count ∙ c.loop-written.invariant.count;
    }
