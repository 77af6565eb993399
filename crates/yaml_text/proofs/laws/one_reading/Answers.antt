use Rattle.yaml_text.proofs.Settled.{reading_settled}
use Rattle.yaml_text.proofs.laws.one_reading.Goals as goal

pub returns-clause-one_tree : goal.returns-clause-one_tree
returns-clause-one_tree c = λ bytes tree other h k. cc

pub returns-clause-tree_or_fault : goal.returns-clause-tree_or_fault
returns-clause-tree_or_fault c = reading_settled
