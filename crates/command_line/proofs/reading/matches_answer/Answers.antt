use Rattle.std.proofs.Common.{◌∙◌, ap, subst, map, List, Option, [], codes}
use Rattle.std.specs.Prelude.{unwrap_or}
use Rattle.std.specs.String.{string_bytes}
use Rattle.clap.specs.Matches.{found_of}
use Rattle.clap.specs.Walk.{Text, rows_of}
use Rattle.clap.proofs.WalkLemmas.{raw_values-rows}
use Rattle.command_line.specs.Request.{IsAnswerBy}
use Rattle.command_line.proofs.reading.matches_answer.Goals as goal

pub returns-in-Some : goal.returns-in-Some
returns-in-Some c =
    let all = c.in-Some.ensures ∙ raw_values-rows (found_of c.args.matches.now) (codes "words") in
    subst (λ (texts : List Text). IsAnswerBy (map string_bytes c.args.words.now) (rows_of (found_of c.args.matches.now)) texts c.answer_of.result)
    (ap (λ (o : Option (List Text)). unwrap_or o []) all) c.answer_of.ensures

pub returns-in-None : goal.returns-in-None
returns-in-None c =
    let all = c.in-None.ensures ∙ raw_values-rows (found_of c.args.matches.now) (codes "words") in
    subst (λ (texts : List Text). IsAnswerBy (map string_bytes c.args.words.now) (rows_of (found_of c.args.matches.now)) texts c.answer_of-in-None.result)
    (ap (λ (o : Option (List Text)). unwrap_or o []) all) c.answer_of-in-None.ensures
