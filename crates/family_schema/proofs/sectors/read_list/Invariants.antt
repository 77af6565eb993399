use Rattle.std.proofs.Common.{◌<◌, ◌^◌, [], All}
use Rattle.input_schema.specs.declared.faults.File.TheVariants as file
use Rattle.input_schema.specs.Readings.{Is}
use Rattle.input_schema.specs.Numbers.{number}
use Rattle.input_schema.proofs.Steps.{GoesOn}
use Rattle.family_schema.specs.Scope.{all_of}
use Rattle.family_schema.proofs.sectors.read_list.Given as goal

abbrev pub invariant-loop-item : goal.invariant-loop-item
invariant-loop-item l = record {
  reading : GoesOn (λ found item. Is (number file.Families item 0 (all_of l.width))) [] l.nodes l.sectors l.item-index;
  below : All (λ sector. sector < 2 ^ l.width) l.sectors;
}
