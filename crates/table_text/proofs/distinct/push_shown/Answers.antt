-- The integrals of the terms are those that the row shows.
use Rattle.table_text.proofs.DescendingTerms.{pushed_shown}
use Rattle.table_text.proofs.distinct.push_shown.Goals as goal

pub returns : goal.returns
returns c = pushed_shown c.args.row.now c.args.shown.now.items c.push_integrals.new.integrals.items c.in_ok-push_integrals.ensures
