use Rattle.input_schema.proofs.Steps.{is_single, then_single}
use Rattle.job_outline.proofs.laws.outline_is_single.Goals as goal

pub returns : goal.returns
returns c =
    λ families kinematics jobs words. then_single _ _ (c.reading_is_single.ensures kinematics) (λ k. then_single _ _ (c.reading_is_single-2.ensures k families) (λ f.
    then_single _ _ (is_single _) (λ job. then_single _ _ (is_single _) (λ point. is_single _))))
