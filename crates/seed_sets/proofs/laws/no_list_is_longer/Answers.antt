use Rattle.seed_sets.proofs.AscendingLists.{no_longer_list}
use Rattle.seed_sets.proofs.laws.no_list_is_longer.Goals as goal

pub returns : goal.returns
returns c = no_longer_list c.args.order
