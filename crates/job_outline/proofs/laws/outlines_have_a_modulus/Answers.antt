use Rattle.job_outline.proofs.OutlineLaws.{outlines_have_a_modulus, one_selection}
use Rattle.job_outline.proofs.laws.outlines_have_a_modulus.Goals as goal

pub returns-clause-modulus : goal.returns-clause-modulus
returns-clause-modulus c = outlines_have_a_modulus

pub returns-clause-selection : goal.returns-clause-selection
returns-clause-selection c = one_selection c.reading_is_single.ensures c.reading_is_single-2.ensures
