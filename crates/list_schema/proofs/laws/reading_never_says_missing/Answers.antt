use Rattle.list_schema.proofs.Present.{lists_present}
use Rattle.list_schema.proofs.laws.reading_never_says_missing.Goals as goal

pub returns : goal.returns
returns c = lists_present
