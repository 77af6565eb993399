-- Memory is wanted only behind the test for the usage line.
use Rattle.std.proofs.Common.{◌∙◌, ap, sym, map, Err}
use Rattle.std.specs.String.{string_bytes}
use Rattle.clap.specs.Matches.{found_of}
use Rattle.clap.specs.Walk.{rows_of}
use Rattle.command_line.proofs.Asking.{refused, answered}
use Rattle.command_line.proofs.reading.read.Goals as goal

pub returns-in_err-matches : goal.returns-in_err-matches
returns-in_err-matches c =
    refused (map string_bytes c.args.words.now) (sym c.is_help.ensures ∙ c.if-is_help.false) c.in_err-matches.field-0.0 (λ h. c.in_err-matches.ensures.usage (ap Err h)) c.from_residual.result c.from_residual.ensures.1

pub returns : goal.returns
returns c =
    answered (map string_bytes c.args.words.now) (sym c.is_help.ensures ∙ c.if-is_help.false) (sym c.are_short.ensures ∙ c.if-not-are_short.false) c.in_ok-matches.ensures.ok.0
    (rows_of (found_of c.in_ok-matches.matches)) c.matches_answer.result c.in_ok-matches.ensures.ok.1 c.matches_answer.ensures
