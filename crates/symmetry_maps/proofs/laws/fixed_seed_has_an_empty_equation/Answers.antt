use Rattle.symmetry_maps.proofs.EquationLemmas.{fixed_empty}
use Rattle.symmetry_maps.proofs.laws.fixed_seed_has_an_empty_equation.Goals as goal

pub returns : goal.returns
returns c = fixed_empty
