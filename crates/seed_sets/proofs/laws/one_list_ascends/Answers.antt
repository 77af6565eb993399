use Rattle.seed_sets.proofs.AscendingLists.{one_list}
use Rattle.seed_sets.proofs.laws.one_list_ascends.Goals as goal

pub returns : goal.returns
returns c = one_list c.args.order
