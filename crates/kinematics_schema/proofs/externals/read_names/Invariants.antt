use Rattle.std.proofs.Common.{◌+◌, ◌≡◌, length}
use Rattle.input_schema.specs.declared.faults.File.TheVariants as file
use Rattle.input_schema.specs.Readings.{Is}
use Rattle.input_schema.specs.Names.{new_name}
use Rattle.input_schema.proofs.Steps.{GoesOn}
use Rattle.kinematics_schema.proofs.externals.read_names.Given as goal

abbrev pub invariant-loop-item : goal.invariant-loop-item
invariant-loop-item l = record {
  reading : GoesOn (λ found item. Is (new_name file.Kinematics item found)) l.fn.declared l.nodes l.names l.item-index;
  counted : length l.names ≡ length l.fn.declared + l.item-index;
}
