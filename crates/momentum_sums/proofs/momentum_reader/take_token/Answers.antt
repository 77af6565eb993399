use Rattle.std.proofs.Common.{◌∙◌, sym}
use Rattle.std.specs.Prelude.{slice_range}
use Rattle.std.proofs.lemmas.Result.{err_from_is_err_and}
use Rattle.text_tokens.specs.Faults.{tokens_in}
use Rattle.text_tokens.specs.Pieces.{token_of, rest_from}
use Rattle.momentum_sums.proofs.MomentumSteps.{number_done, name_done, plus_done, minus_done, star_done, token_refused, token_blamed, number_blamed, name_blamed}
use Rattle.momentum_sums.proofs.momentum_reader.take_token.Goals as goal

pub returns-in_default-clause-fault : goal.returns-in_default-clause-fault
returns-in_default-clause-fault c = λ before h.
    token_refused _ before _ _ _ _ (sym (c.follow.ensures _ _) ∙ c.in_default.is) h

pub returns-in_err-factor-in-Number-clause-fault : goal.returns-in_err-factor-in-Number-clause-fault
returns-in_err-factor-in-Number-clause-fault c =
    let p = err_from_is_err_and c.from_residual.result c.from_residual.ensures.1 in
    rw (p.1, p.2) (λ before h.
    token_blamed c.args.names.now before (tokens_in (rest_from c.args.bytes.now c.args.piece.end)) _ _
    (token_of c.args.piece.kind c.args.piece.at (slice_range c.args.bytes.now c.args.piece.at c.args.piece.end)) _ _ (sym (c.in-Some.ensures _ _))
    (number_blamed _ before _ c.args.piece.kind c.args.piece.at (slice_range c.args.bytes.now c.args.piece.at c.args.piece.end) _ c.in-Number.is
    (c.in_err-factor-in-Number.ensures.fault before (tokens_in (rest_from c.args.bytes.now c.args.piece.end)) c.args.names.now)) h)

pub returns-in_err-take_name-in-Name-clause-fault : goal.returns-in_err-take_name-in-Name-clause-fault
returns-in_err-take_name-in-Name-clause-fault c =
    let p = err_from_is_err_and c.from_residual-in_err-take_name-in-Name.result c.from_residual-in_err-take_name-in-Name.ensures.1 in
    rw (p.1, p.2) (λ before h.
    token_blamed c.args.names.now before (tokens_in (rest_from c.args.bytes.now c.args.piece.end)) _ _
    (token_of c.args.piece.kind c.args.piece.at (slice_range c.args.bytes.now c.args.piece.at c.args.piece.end)) _ _ (sym (c.in-Some.ensures _ _))
    (name_blamed _ before _ c.args.piece.kind c.args.piece.at (slice_range c.args.bytes.now c.args.piece.at c.args.piece.end) _ c.in-Name.is
    (c.in_err-take_name-in-Name.ensures.fault before h.tallied)) h)

pub returns-in_ok-factor-in-Number-clause-ok : goal.returns-in_ok-factor-in-Number-clause-ok
returns-in_ok-factor-in-Number-clause-ok c = λ before h.
    number_done _ before _ _ _ _ _ _ _ _ c.in-Number.is (sym (c.in-Some.ensures _ _)) c.in_ok-factor-in-Number.ensures.ok.0 c.in_ok-factor-in-Number.ensures.ok.1 h

pub returns-in_ok-take_name-in-Name-clause-ok : goal.returns-in_ok-take_name-in-Name-clause-ok
returns-in_ok-take_name-in-Name-clause-ok c = λ before h.
    name_done _ before _ _ _ _ _ _ _ _ c.in-Name.is (sym (c.in-Some.ensures _ _)) (c.in_ok-take_name-in-Name.ensures.ok before h.tallied) h

pub returns-in-Plus-clause-ok : goal.returns-in-Plus-clause-ok
returns-in-Plus-clause-ok c = λ before h.
    plus_done _ before _ _ _ _ _ _ _ c.in-Plus.is (sym (c.in-Some.ensures _ _)) h

pub returns-in-Minus-clause-ok : goal.returns-in-Minus-clause-ok
returns-in-Minus-clause-ok c = λ before h.
    minus_done _ before _ _ _ _ _ _ _ c.in-Minus.is (sym (c.in-Some.ensures _ _)) h

pub returns-in_default-kind : goal.returns-in_default-kind
returns-in_default-kind c = record {
  ok = λ before h.
      star_done _ before _ _ _ _ _ _ _ c.in_default-kind.not-Number c.in_default-kind.not-Name c.in_default-kind.not-Plus c.in_default-kind.not-Minus (sym (c.in-Some.ensures _ _)) h;
  fault = tt;
}
