-- The table has the keys of a job.
use Rattle.job_schema.proofs.jobs.job_pairs.Goals as goal

pub returns : goal.returns
returns c =
    rw (c.needed.ensures, c.needed-2.ensures, c.optional.ensures, c.optional-2.ensures, c.optional-3.ensures, c.optional-4.ensures, c.needed-3.ensures) at c.fields.ensures
