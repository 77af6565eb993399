use Rattle.std.proofs.Common.{◌≡◌, ◌≤◌, [], length}
use Rattle.std.specs.Prelude.{All}
use Rattle.input_schema.proofs.Steps.{GoesOn}
use Rattle.family_schema.specs.FamilyFile.{ReadsFamily}
use Rattle.family_schema.specs.Sound.{IsSound}
use Rattle.family_schema.proofs.reader.read_list.Given as goal

abbrev pub invariant-loop-item : goal.invariant-loop-item
invariant-loop-item l = record {
  reading : GoesOn (ReadsFamily l.kinematics) [] l.nodes l.families l.item-index;
  widths : All (λ family. family.width ≤ 20) l.families;
  sound : All (IsSound l.kinematics) l.families;
  counted : length l.families ≡ l.item-index;
}
