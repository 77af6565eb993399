-- The table has the keys of an item.
use Rattle.job_schema.proofs.groups.group_pairs.Goals as goal

pub returns : goal.returns
returns c = rw (c.needed.ensures, c.needed-2.ensures, c.needed-3.ensures, c.needed-4.ensures, c.optional.ensures) at c.fields.ensures
