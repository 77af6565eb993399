-- Words are refused where they are no call.
use Rattle.std.proofs.Common.{Err, map, subst}
use Rattle.std.specs.String.{string_bytes}
use Rattle.command_line.specs.Request.{IsAnswerOf}
use Rattle.command_line.specs.declared.request.WordsFault.{WordsFault}
use Rattle.kira_app.specs.Words.{asks}
use Rattle.kira_app.proofs.words.unread.Goals as goal

pub returns-in-Usage : goal.returns-in-Usage
unfolding asks
returns-in-Usage c = subst (λ (e : WordsFault). IsAnswerOf (map string_bytes c.args.words.now) (Err e)) c.in-Usage.is c.requires

pub returns-in-OutOfMemory : goal.returns-in-OutOfMemory
unfolding asks
returns-in-OutOfMemory c = subst (λ (e : WordsFault). IsAnswerOf (map string_bytes c.args.words.now) (Err e)) c.in-OutOfMemory.is c.requires
