use Rattle.yaml_text.proofs.flow.+value.Given as goal

abbrev pub decreases-value : goal.decreases-value
decreases-value l = l.depth
