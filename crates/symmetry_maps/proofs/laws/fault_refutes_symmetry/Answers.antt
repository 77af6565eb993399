use Rattle.symmetry_maps.proofs.SendingLemmas.{fault_refutes}
use Rattle.symmetry_maps.proofs.laws.fault_refutes_symmetry.Goals as goal

pub returns : goal.returns
returns c = fault_refutes
