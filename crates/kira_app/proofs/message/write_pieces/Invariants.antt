use Rattle.std.proofs.Common.{◌≡◌, map, take, option_map}
use Rattle.std.specs.List.{concat}
use Rattle.kira_outside.specs.Stream.{appended}
use Rattle.kira_app.proofs.message.write_pieces.Given as goal

abbrev pub invariant-loop-piece : goal.invariant-loop-piece
invariant-loop-piece g l = record {
  told : g.E.Sink.told l.err ≡ option_map (appended (concat (map (λ piece. piece.now) (take l.piece-index l.pieces)))) (g.E.Sink.told l.initial.err);
  never_falls : g.E.Sink.faults l.err ≡ g.E.Sink.faults l.initial.err;
}
