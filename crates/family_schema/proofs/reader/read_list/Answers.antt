use Rattle.std.proofs.Common.{◌≤◌, arith, []}
use Rattle.std.proofs.lemmas.Grind.{common_steps}
use Rattle.std.proofs.lemmas.List.Elements.{All-push}
use Rattle.input_schema.proofs.Steps.{refused, then_is, then_refuses_later, spoilt, gone_on, all_read}
use Rattle.family_schema.specs.FamilyFile.{ReadsList, ReadsFamily}
use Rattle.family_schema.specs.Sound.{IsSound}
use Rattle.family_schema.proofs.reader.read_list.Goals as goal

pub returns-in_err-family-clause-reading : goal.returns-in_err-family-clause-reading
returns-in_err-family-clause-reading c =
    refused (ReadsList c.args.kinematics.now c.args.node.now) _ _ c.from_residual-in_err-family.ensures.1 (then_refuses_later _ _ _ _ c.in_ok-nodes.ensures.items
    (spoilt (ReadsFamily c.args.kinematics.now) [] c.in_ok-nodes.nodes.now c.loop-item.families c.loop-item.item-index c.item-item.result _ c.loop-item.invariant.reading (omega arith) c.item-item.is (rw c.as_slice.ensures at c.in_err-family.ensures.reading)))

pub loop-item-preserved : goal.loop-item-preserved
loop-item-preserved c = record {
  reading = rw c.in_ok-push.ensures.ok
      (gone_on (ReadsFamily c.args.kinematics.now) [] c.in_ok-nodes.nodes.now c.loop-item.families c.loop-item.item-index c.item-item.result c.in_ok-family.family c.loop-item.invariant.reading (omega arith) c.item-item.is (rw c.as_slice.ensures at c.in_ok-family.ensures.reading));
  widths = rw c.in_ok-push.ensures.ok (All-push (λ family. family.width ≤ 20) c.loop-item.families c.in_ok-family.family c.loop-item.invariant.widths c.in_ok-family.ensures.sound.narrow);
  sound = rw c.in_ok-push.ensures.ok (All-push (IsSound c.args.kinematics.now) c.loop-item.families c.in_ok-family.family c.loop-item.invariant.sound c.in_ok-family.ensures.sound);
  counted = rw c.in_ok-push.ensures.ok (grind (arith, common_steps));
}

pub returns-clause-reading : goal.returns-clause-reading
returns-clause-reading c = then_is _ _ _ _ c.in_ok-nodes.ensures.items (all_read (ReadsFamily c.args.kinematics.now) [] c.in_ok-nodes.nodes.now c.loop-item.families c.loop-item.item-index c.loop-item.invariant.reading (omega arith))
