use Rattle.std.proofs.Common.{◌<◌, ◌^◌, arith, []}
use Rattle.std.proofs.lemmas.List.Elements.{All-push}
use Rattle.input_schema.proofs.Steps.{refused, then_is, then_refuses_later, spoilt, gone_on, all_read}
use Rattle.input_schema.specs.declared.faults.File.TheVariants as file
use Rattle.input_schema.specs.Readings.{Is}
use Rattle.input_schema.specs.Numbers.{number}
use Rattle.family_schema.specs.Scope.{all_of}
use Rattle.family_schema.specs.FamilyFile.{ReadsSectors}
use Rattle.family_schema.proofs.SectorBounds.{sector_below}
use Rattle.family_schema.proofs.sectors.read_list.Goals as goal

pub returns-in_err-sector-clause-reading : goal.returns-in_err-sector-clause-reading
returns-in_err-sector-clause-reading c =
    refused (ReadsSectors c.args.least c.args.most c.args.width c.args.node.now) _ _ c.from_residual-in_err-sector.ensures.1 (then_refuses_later _ _ _ _ c.in_ok-nodes.ensures.items
    (spoilt (λ found item. Is (number file.Families item 0 (all_of c.args.width))) [] c.in_ok-nodes.nodes.now c.loop-item.sectors c.loop-item.item-index c.item-item.result _ c.loop-item.invariant.reading (omega arith) c.item-item.is (rw c.all_of-greatest.ensures at c.in_err-sector.ensures)))

pub loop-item-preserved : goal.loop-item-preserved
loop-item-preserved c =
    let reading = rw c.all_of-greatest.ensures at c.in_ok-sector.ensures in record {
      reading = rw c.in_ok-push.ensures.ok
          (gone_on (λ found item. Is (number file.Families item 0 (all_of c.args.width))) [] c.in_ok-nodes.nodes.now c.loop-item.sectors c.loop-item.item-index c.item-item.result c.in_ok-sector.sector c.loop-item.invariant.reading (omega arith) c.item-item.is reading);
      below = rw c.in_ok-push.ensures.ok
          (All-push (λ sector. sector < 2 ^ c.args.width) c.loop-item.sectors c.in_ok-sector.sector c.loop-item.invariant.below (sector_below c.item-item.result c.args.width c.in_ok-sector.sector reading));
    }

pub returns-clause-reading : goal.returns-clause-reading
returns-clause-reading c = then_is _ _ _ _ c.in_ok-nodes.ensures.items (all_read (λ found item. Is (number file.Families item 0 (all_of c.args.width))) [] c.in_ok-nodes.nodes.now c.loop-item.sectors c.loop-item.item-index c.loop-item.invariant.reading (omega arith))
