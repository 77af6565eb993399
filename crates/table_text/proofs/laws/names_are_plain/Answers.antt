-- The bytes of names are letters, digits and '_'.
use Rattle.table_text.proofs.TextLaws.{names_plain}
use Rattle.table_text.proofs.laws.names_are_plain.Goals as goal

pub returns : goal.returns
returns c = names_plain
