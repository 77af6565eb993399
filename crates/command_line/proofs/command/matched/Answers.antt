use Rattle.std.proofs.Common.{◌≡◌, ◌∙◌, ap, sym, map, rules}
use Rattle.std.specs.String.{string_bytes}
use Rattle.clap.specs.Values.{kind_of}
use Rattle.clap.specs.Simple.{App, is_simple, matches_of}
use Rattle.clap.specs.Faults.{fault_of, is_simple_and_free}
use Rattle.clap.specs.declared.error.kind.ErrorKind.TheVariants as kind
use Rattle.command_line.specs.Command.{faults_at, rows_at}
use Rattle.command_line.proofs.Simple.{command_simple, command_free, for_memory}
use Rattle.command_line.proofs.command.matched.Goals.{in-OutOfMemory, in_default}
use Rattle.command_line.proofs.command.matched.Goals as goal

pub returns-in-Ok-clause-ok : goal.returns-in-Ok-clause-ok
unfolding faults_at rows_at
returns-in-Ok-clause-ok c =
    let app = c.in_ok-command.ensures in
    let texts = map string_bytes c.args.words.now in (
      ap (λ (a : App). fault_of a texts) (sym app) ∙ c.in-Ok.ensures.kinds (ap is_simple_and_free app ∙ command_free),
      (c.in-Ok.ensures.matches (ap is_simple app ∙ command_simple)).0 ∙ ap (λ (a : App). matches_of a texts) app,
    )

pub returns-after-kind-clause-usage : goal.returns-after-kind-clause-usage
unfolding faults_at
returns-after-kind-clause-usage c =
    let app = c.in_ok-command.ensures in
    let texts = map string_bytes c.args.words.now in
    λ usage none.
    let memory : kind_of c.in-Err.error ≡ kind.OutOfMemory = for_memory _ c.in-Err.error (c.in-Err.ensures.kinds (ap is_simple_and_free app ∙ command_free)) (ap (λ (a : App). fault_of a texts) app ∙ none) in
    elim c.match-kind.branch [
      | in-OutOfMemory w ↦ search rules
      | in_default w ↦ search rules
    ]
