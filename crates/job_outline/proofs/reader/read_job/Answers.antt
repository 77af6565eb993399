use Rattle.std.proofs.Common.{refl}
use Rattle.input_schema.proofs.Steps.{then_is}
use Rattle.job_outline.proofs.reader.read_job.Goals as goal

pub returns : goal.returns
returns c =
    then_is _ _ _ _ (rw (c.as_slice.ensures, c.deref.ensures.value, c.in_ok-parameters.ensures.names) at c.in_ok-job.ensures.job)
    (then_is _ _ _ _ (rw (c.deref-2.ensures.value, c.in_ok-parameters.ensures.names) at c.in_ok-point.ensures.point) refl)
