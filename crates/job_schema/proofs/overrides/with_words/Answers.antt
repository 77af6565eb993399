-- The first word at fault is the fault of all words.
use Rattle.std.proofs.Common.{◌≡◌, [], sym, take, drop, ◌∙◌}
use Rattle.input_schema.specs.Readings.{Is}
use Rattle.input_schema.proofs.Steps.{refused}
use Rattle.job_schema.specs.Overrides.{with_words}
use Rattle.job_schema.proofs.Words.{spoilt_by}
use Rattle.job_schema.proofs.overrides.with_words.Goals as goal

pub returns-in_err-current : goal.returns-in_err-current
returns-in_err-current c =
    refused (Is (with_words c.args.names.now [] c.args.point c.args.words.now)) _ _ c.from_residual.ensures.1
    (spoilt_by c.args.names.now c.args.words.now c.loop-i.i c.loop-i.current c.index-words-i.result (with_words c.args.names.now [] c.args.point c.args.words.now) _ c.loop-i-test.true c.index-words-i.is c.loop-i.invariant.0 c.in_err-current.ensures.value)
