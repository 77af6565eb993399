use Rattle.std.proofs.Common.{◌∙◌}
use Rattle.kira_app.proofs.Messages.{on_err, prefix_within, written_more}
use Rattle.kira_app.proofs.message.write_pieces.Goals as goal

pub returns-in_err-write_all-clause-prefix : goal.returns-in_err-write_all-clause-prefix
returns-in_err-write_all-clause-prefix g c =
    on_err c.from_residual.result _
    (prefix_within (λ piece. piece.now) c.args.pieces.now c.loop-piece.piece-index _ (g.E.Sink.told c.args.err.now) (g.E.Sink.told c.loop-piece.err) (g.E.Sink.told c.write_all.new.out)
    c.loop-piece-test.true c.loop-piece.invariant.told c.in_err-write_all.ensures.prefix)

pub loop-piece-preserved : goal.loop-piece-preserved
loop-piece-preserved g c = record {
  told = written_more (λ piece. piece.now) c.args.pieces.now c.loop-piece.piece-index _ (g.E.Sink.told c.args.err.now) (g.E.Sink.told c.loop-piece.err) (g.E.Sink.told c.write_all.new.out)
      c.loop-piece-test.true c.loop-piece.invariant.told c.in_ok-write_all.ensures.written;
  never_falls = c.in_ok-write_all.ensures.ok_count ∙ c.loop-piece.invariant.never_falls;
}
