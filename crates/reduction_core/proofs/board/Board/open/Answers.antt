-- The invariant holds of the opening.
use Rattle.sector_machine.proofs.Opening.{opening_holds}
use Rattle.reduction_core.specs.Slots.{state_of}
use Rattle.reduction_core.proofs.board.Board.open.Goals as goal

pub invariant_of-result : goal.invariant_of-result
invariant_of-result c =
    let rows = c.args.rows.items in
    record {
      modulus = c.value-p.ensures.modulus;
      equations = rows;
      holds = (opening_holds c.args.modulus c.args.order rows (state_of c.in_ok-slots.slots.items) (c.in_ok-slots.ensures c.args.modulus c.requires)).rows;
    }
