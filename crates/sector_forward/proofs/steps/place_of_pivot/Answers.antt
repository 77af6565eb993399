-- The half in which the pivot can't be is left out.
use Rattle.std.proofs.Common.{◌<◌, ◌+◌, ◌-◌, ◌/◌, ℕ, length, arith}
use Rattle.sector_forward.proofs.StepLemmas.{between_up, between_down, found_at, ordered_of_read, pivot_of_read}
use Rattle.sector_forward.proofs.steps.place_of_pivot.Goals as goal

pub compare_pivot-requires : goal.compare_pivot-requires
compare_pivot-requires c =
    let s = c.requires.stairs in
    let b = c.loop-low.invariant in
    let middle : ℕ = c.loop-low.low + (c.loop-low.high - c.loop-low.low) / 2 in
    let within : middle < length c.args.rows.now = omega (arith, b.within) in
    record {
      ordered = ordered_of_read s.0 c.args.order c.args.rows.now s.1 c.args.x.now 0 middle 0 c.index-rows-middle.result within c.index-rows-middle.is;
      pivot = pivot_of_read s.0 c.args.order c.args.rows.now s.1 c.args.x.now 0 middle 0 c.index-rows-middle.result within c.index-rows-middle.is;
    }

pub loop-low-preserved-in-Less : goal.loop-low-preserved-in-Less
loop-low-preserved-in-Less c =
    let middle : ℕ = c.loop-low.low + (c.loop-low.high - c.loop-low.low) / 2 in
    between_up c.requires.stairs.0 c.args.order c.args.rows.now c.requires.stairs.1 c.args.x.now c.loop-low.low middle c.loop-low.high c.index-rows-middle.result (omega arith) c.loop-low.invariant c.index-rows-middle.is c.in-Less.ensures

pub loop-low-preserved : goal.loop-low-preserved
loop-low-preserved c =
    let middle : ℕ = c.loop-low.low + (c.loop-low.high - c.loop-low.low) / 2 in
    between_down c.requires.stairs.0 c.args.order c.args.rows.now c.requires.stairs.1 c.args.x.now c.loop-low.low middle c.loop-low.high c.index-rows-middle.result (omega arith) (omega arith) c.loop-low.invariant c.index-rows-middle.is c.in-Greater.ensures

pub returns-in-Equal : goal.returns-in-Equal
returns-in-Equal c =
    let middle : ℕ = c.loop-low.low + (c.loop-low.high - c.loop-low.low) / 2 in
    let within : middle < length c.args.rows.now = omega (arith, c.loop-low.invariant.within) in
    (within, found_at c.requires.stairs.0 c.args.order c.args.rows.now c.requires.stairs.1 c.args.x.now 0 middle 0 c.index-rows-middle.result within c.index-rows-middle.is c.in-Equal.ensures)
