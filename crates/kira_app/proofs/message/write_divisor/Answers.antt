use Rattle.std.proofs.Common.{◌≡◌, ◌∙◌, ◌∷◌, [], codes, List, ℕ, subst, option_map, OnOk, OnErr}
use Rattle.kira_outside.specs.Stream.{appended}
use Rattle.table_text.specs.Sending.{IsPrefixSent}
use Rattle.kira_app.specs.Message.{line_of}
use Rattle.kira_app.proofs.message.write_divisor.Goals as goal

pub returns-clause-written : goal.returns-clause-written
returns-clause-written g c =
    subst (λ (digits : List ℕ). OnOk c.write_pieces.result (g.E.Sink.told c.write_pieces.new.err ≡ option_map (appended (line_of (codes "the prime is divisible by " ∷ digits ∷ []))) (g.E.Sink.told c.args.err.now)))
    (c.as_bytes.ensures.value ∙ c.format.ensures.text) c.write_pieces.ensures.written

pub returns-clause-prefix : goal.returns-clause-prefix
returns-clause-prefix g c =
    subst (λ (digits : List ℕ). OnErr c.write_pieces.result (IsPrefixSent (line_of (codes "the prime is divisible by " ∷ digits ∷ [])) (g.E.Sink.told c.args.err.now) (g.E.Sink.told c.write_pieces.new.err)))
    (c.as_bytes.ensures.value ∙ c.format.ensures.text) c.write_pieces.ensures.prefix
