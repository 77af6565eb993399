-- What the words ask for is what command_line says of them.
use Rattle.std.proofs.Common.{Ok, map, refl, subst}
use Rattle.std.specs.String.{string_bytes}
use Rattle.command_line.specs.Request.{IsAnswerOf}
use Rattle.command_line.specs.declared.request.Request.{Request}
use Rattle.kira_app.specs.Words.{asks, is_served}
use Rattle.kira_app.proofs.AskedWords.{job_wanted}
use Rattle.kira_app.proofs.words.asked_for.Goals as goal

pub returns-in-Help : goal.returns-in-Help
unfolding asks
returns-in-Help c = subst (λ (r : Request). IsAnswerOf (map string_bytes c.args.words.now) (Ok r)) c.in-Help.is c.requires

pub served-requires : goal.served-requires
served-requires c =
    let asked = subst (λ (r : Request). IsAnswerOf (map string_bytes c.args.words.now) (Ok r)) c.in-Job.is c.requires in
    asked.1.1.short

pub returns-in-Job : goal.returns-in-Job
returns-in-Job c =
    let words = map string_bytes c.args.words.now in
    let asked = subst (λ (r : Request). IsAnswerOf words (Ok r)) c.in-Job.is c.requires in
    job_wanted words c.in-Job.job asked.0 asked.1 c.served.result c.served.ensures

pub returns-in-Sample : goal.returns-in-Sample
unfolding asks is_served
returns-in-Sample c =
    let asked = subst (λ (r : Request). IsAnswerOf (map string_bytes c.args.words.now) (Ok r)) c.in-Sample.is c.requires in
    (asked.0, rw asked.1.0 refl)
