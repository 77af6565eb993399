use Rattle.command_line.proofs.PlainWords.{plain_words_stand}
use Rattle.command_line.proofs.laws.plain_words_stand.Goals as goal

pub returns : goal.returns
returns c = plain_words_stand
