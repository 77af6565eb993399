-- The residues are the only ones, and so is their row.
use Rattle.ibp_generator.proofs.EquationLemmas.{one_equation}
use Rattle.ibp_generator.proofs.laws.equation_is_unique.Goals as goal

pub returns : goal.returns
returns c = one_equation
