use Rattle.symmetry_maps.proofs.SendingLemmas.{one_symmetry}
use Rattle.symmetry_maps.proofs.laws.symmetry_is_unique.Goals as goal

pub returns : goal.returns
returns c = one_symmetry
