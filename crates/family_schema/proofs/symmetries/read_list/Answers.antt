use Rattle.std.proofs.Common.{arith, [], length}
use Rattle.std.proofs.lemmas.List.Elements.{All-push}
use Rattle.input_schema.proofs.Steps.{refused, then_is, then_refuses_later, spoilt, gone_on, all_read}
use Rattle.kinematics_schema.specs.Independent.{independents}
use Rattle.family_schema.specs.FamilyFile.{ReadsSymmetries, ReadsSymmetry}
use Rattle.family_schema.specs.Sound.{HasImages}
use Rattle.family_schema.proofs.symmetries.read_list.Goals as goal

pub returns-in_err-symmetry-clause-reading : goal.returns-in_err-symmetry-clause-reading
returns-in_err-symmetry-clause-reading c =
    refused (ReadsSymmetries c.args.scope.now c.args.node.now) _ _ c.from_residual-in_err-symmetry.ensures.1 (then_refuses_later _ _ _ _ c.in_ok-nodes.ensures.items
    (spoilt (λ found item. ReadsSymmetry c.args.scope.now item) [] c.in_ok-nodes.nodes.now c.loop-item.symmetries c.loop-item.item-index c.item-item.result _ c.loop-item.invariant.reading (omega arith) c.item-item.is c.in_err-symmetry.ensures.reading))

pub loop-item-preserved : goal.loop-item-preserved
loop-item-preserved c = record {
  reading = rw c.in_ok-push.ensures.ok
      (gone_on (λ found item. ReadsSymmetry c.args.scope.now item) [] c.in_ok-nodes.nodes.now c.loop-item.symmetries c.loop-item.item-index c.item-item.result c.in_ok-symmetry.symmetry c.loop-item.invariant.reading (omega arith) c.item-item.is c.in_ok-symmetry.ensures.reading);
  images = rw c.in_ok-push.ensures.ok
      (All-push (HasImages (length c.args.scope.now.loops) (length (independents c.args.scope.now.conserved c.args.scope.now.names))) c.loop-item.symmetries c.in_ok-symmetry.symmetry c.loop-item.invariant.images c.in_ok-symmetry.ensures.images);
}

pub returns-clause-reading : goal.returns-clause-reading
returns-clause-reading c = then_is _ _ _ _ c.in_ok-nodes.ensures.items (all_read (λ found item. ReadsSymmetry c.args.scope.now item) [] c.in_ok-nodes.nodes.now c.loop-item.symmetries c.loop-item.item-index c.loop-item.invariant.reading (omega arith))
