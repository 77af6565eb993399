-- The table has the keys of a selection.
use Rattle.job_schema.proofs.selections.selection_pairs.Goals as goal

pub returns : goal.returns
returns c = rw (c.optional.ensures, c.optional-2.ensures) at c.fields.ensures
