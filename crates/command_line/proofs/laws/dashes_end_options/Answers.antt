use Rattle.command_line.proofs.PlainWords.{dashes_end_options}
use Rattle.command_line.proofs.laws.dashes_end_options.Goals as goal

pub returns : goal.returns
returns c = dashes_end_options
