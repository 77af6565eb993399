use Rattle.std.proofs.Common.{◌∷◌, ◌++◌, [], arith, subst, ◌∙◌, ap, length}
use Rattle.std.proofs.lemmas.List.{length_push, length-map}
use Rattle.std.proofs.lemmas.Option.{MatchOption-at_none}
use Rattle.text_tokens.specs.declared.faults.TextKind.TheVariants.{BadMomentum}
use Rattle.text_tokens.specs.Tokens.{tokens_of}
use Rattle.text_tokens.specs.Pieces.{placed_piece, rest_from}
use Rattle.momentum_sums.specs.Momenta.{IsMomentumText, momentum_blame}
use Rattle.momentum_sums.specs.MomentumReader.{tally_of}
use Rattle.text_tokens.proofs.Reading.{HasCome, come_more, fault_at_end}
use Rattle.momentum_sums.proofs.MomentumLemmas.{goes_on, whole}
use Rattle.momentum_sums.proofs.TallyLemmas.{room}
use Rattle.momentum_sums.proofs.momentum_reader.read_terms.Goals as goal

pub take_token-requires-clause-room : goal.take_token-requires-clause-room
take_token-requires-clause-room c =
    room _ _ _ _ _ (c.loop-piece.auto.tallies ∙ ap length c.requires.start ∙ length-map c.args.names.now (tally_of [])) (omega (arith, c.loop-piece.invariant.short)) c.loop-piece.invariant.read.tallied

pub loop-piece-preserved : goal.loop-piece-preserved
loop-piece-preserved c =
    let i = c.loop-piece.invariant in
    let token = (placed_piece c.args.bytes.now c.in-Some.piece).token in
    let done = c.in-Ok.ensures.ok i.before i.read in
    let here = subst (HasCome IsMomentumText (momentum_blame c.args.names.now) BadMomentum (length c.args.bytes.now) (tokens_of c.args.bytes.now) i.before) c.in-Some.ensures.3 i.come in
    record {
      within = omega (arith, c.in-Some.ensures.1);
      before = i.before ++ token ∷ [];
      short = omega (arith, i.short, c.in-Some.ensures.0, c.in-Some.ensures.2, length_push i.before token);
      come = come_more IsMomentumText (momentum_blame c.args.names.now) BadMomentum (length c.args.bytes.now) (tokens_of c.args.bytes.now) i.before
          (placed_piece c.args.bytes.now c.in-Some.piece) (rest_from c.args.bytes.now c.in-Some.piece.end)
          (goes_on _ _ done.1.reached) done.0 here;
      read = done.1;
    }

pub returns-in_default-expected : goal.returns-in_default-expected
returns-in_default-expected c =
    let i = c.loop-piece.invariant in
    let here = subst (HasCome IsMomentumText (momentum_blame c.args.names.now) BadMomentum (length c.args.bytes.now) (tokens_of c.args.bytes.now) i.before) (MatchOption-at_none _ _ c.in_default.is c.next_piece.ensures) i.come in
    record {
      ok = tt;
      fault = fault_at_end _ _ _ _ _ i.before (λ text. c.in_default-expected.not-Sign (whole i.before _ i.read.ran text)) here;
    }
