use Rattle.std.proofs.Common.{◌≡◌, [], drop}
use Rattle.input_schema.specs.Readings.{each}
use Rattle.job_schema.specs.Jobs.{list_file}
use Rattle.job_schema.proofs.selections.named_files.Given as goal

abbrev pub invariant-loop-item : goal.invariant-loop-item
invariant-loop-item l = each (list_file l.names) [] l.nodes ≡ each (list_file l.names) l.files (drop l.item-index l.nodes)
