use Rattle.job_schema.proofs.selections.specs_in.Goals as goal

pub returns : goal.returns
returns c = rw c.optional-node.ensures at c.selected_specs.ensures
