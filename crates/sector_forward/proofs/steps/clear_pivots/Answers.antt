-- Each step clears one more pivot, and those above stay cleared.
use Rattle.sector_forward.proofs.Clearing.{IsClearing-start, IsClearing-step, none_left, rule_of_read, pivot_of_rule}
use Rattle.sector_forward.proofs.steps.clear_pivots.Goals as goal

pub loop-place-init : goal.loop-place-init
loop-place-init c = IsClearing-start c.args.modulus.now c.args.order c.args.rows.now c.args.row.now c.requires.row

pub clear_pivot-requires : goal.clear_pivot-requires
clear_pivot-requires c =
    record {
      row = c.loop-place.invariant.row_is;
      rule = rule_of_read c.args.modulus.now c.args.order c.args.rows.now c.loop-place.bound c.in-Some.place c.args.row.now c.loop-place.row c.index-rows-place.result c.requires.stairs c.loop-place.invariant c.in-Some.ensures.0 c.index-rows-place.is;
      pivot = pivot_of_rule c.args.modulus.now c.args.order c.args.rows.now c.loop-place.bound c.in-Some.place c.args.row.now c.loop-place.row c.index-rows-place.result c.requires.stairs c.loop-place.invariant c.in-Some.ensures.0 c.index-rows-place.is;
    }

pub loop-place-preserved : goal.loop-place-preserved
loop-place-preserved c =
    IsClearing-step c.args.modulus.now c.args.order c.args.rows.now c.loop-place.bound c.in-Some.place c.args.row.now c.loop-place.row c.clear_pivot.new.row c.index-rows-place.result c.requires.stairs c.in-Some.ensures.0
    c.index-rows-place.is c.in-Some.ensures.1 c.loop-place.invariant c.clear_pivot.ensures.row c.in_ok-clear_pivot.ensures.cleared

pub returns-clause-cleared : goal.returns-clause-cleared
returns-clause-cleared c =
    none_left c.args.modulus.now c.args.order c.args.rows.now c.loop-place.bound c.args.row.now c.loop-place.row c.loop-place.invariant c.in_default.ensures
