use Rattle.symmetry_maps.proofs.EquationLemmas.{one_equation}
use Rattle.symmetry_maps.proofs.laws.equation_is_unique.Goals as goal

pub returns : goal.returns
returns c = one_equation
