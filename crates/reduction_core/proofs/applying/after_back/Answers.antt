use Rattle.reduction_core.proofs.ApplyLemmas.{is_after_back}
use Rattle.reduction_core.proofs.applying.after_back.Goals as goal

pub returns : goal.returns
returns c = is_after_back c.args.unit c.args.rows.items c.args.slots.items c.set_back.new.slots.items c.requires.ascend c.requires.listed c.set_back.ensures
