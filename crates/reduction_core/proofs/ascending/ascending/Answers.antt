-- Each row is put among those before it.
use Rattle.std.proofs.Common.{◌≡◌, length, map-id, rules, sym, subst, ◌∙◌}
use Rattle.std.proofs.lemmas.Iterator.Adapters.{YieldsList-from_vec}
use Rattle.std.proofs.lemmas.Iterator.Consumers.{YieldsList-turn, YieldsList-end}
use Rattle.sparse_row.specs.Row.{IsRow}
use Rattle.sector_forward.specs.Steps.{HasPivot}
use Rattle.sector_forward.proofs.Fronts.{front_more}
use Rattle.reduction_core.specs.Ascending.{HasMembers}
use Rattle.reduction_core.proofs.AscendingLemmas.{members_more, no_pivot_before}
use Rattle.reduction_core.proofs.ascending.ascending.Goals as goal

pub insert_row-requires-clause-pivot : goal.insert_row-requires-clause-pivot
insert_row-requires-clause-pivot c =
    let road = YieldsList-from_vec {s = c.into_iter-row-iterator.result} c.args.rows.items (search rules) (search rules) in
    let turn = YieldsList-turn road c.loop-row.yielded c.loop-row.row-iterator c.loop-row.yielded_by c.next.result c.next.new.self c.in-Some.row c.in-Some.is c.next.ensures.steps in
    subst (HasPivot c.args.order) (sym turn.1) (c.requires.pivots (length c.loop-row.yielded) c.in-Some.row turn.0)

pub insert_row-requires-clause-new : goal.insert_row-requires-clause-new
insert_row-requires-clause-new c =
    let road = YieldsList-from_vec {s = c.into_iter-row-iterator.result} c.args.rows.items (search rules) (search rules) in
    let turn = YieldsList-turn road c.loop-row.yielded c.loop-row.row-iterator c.loop-row.yielded_by c.next.result c.next.new.self c.in-Some.row c.in-Some.is c.next.ensures.steps in
    no_pivot_before c.args.order c.args.rows.items c.loop-row.yielded c.loop-row.table.items c.in-Some.row turn.0 turn.1 c.requires.apart c.loop-row.invariant.4 c.loop-row.invariant.2

pub loop-row-preserved : goal.loop-row-preserved
loop-row-preserved c =
    let road = YieldsList-from_vec {s = c.into_iter-row-iterator.result} c.args.rows.items (search rules) (search rules) in
    let turn = YieldsList-turn road c.loop-row.yielded c.loop-row.row-iterator c.loop-row.yielded_by c.next.result c.next.new.self c.in-Some.row c.in-Some.is c.next.ensures.steps in (
      tt,
      tt,
      members_more c.loop-row.yielded c.loop-row.table.items c.insert_row.new.table.items c.in-Some.row c.loop-row.invariant.2 c.in_ok-insert_row.ensures.members,
      λ p all.
          c.in_ok-insert_row.ensures.stairs p (c.loop-row.invariant.3 p all) (subst (IsRow p c.args.order) (sym turn.1) (all (length c.loop-row.yielded) c.in-Some.row turn.0)),
      front_more c.args.rows.items c.loop-row.yielded c.in-Some.row turn.0 turn.1 c.loop-row.invariant.4,
    )

pub returns : goal.returns
returns c =
    let road = YieldsList-from_vec {s = c.into_iter-row-iterator.result} c.args.rows.items (search rules) (search rules) in
    let ended = YieldsList-end road c.loop-row.yielded c.loop-row.row-iterator c.loop-row.yielded_by c.next.result c.next.new.self c.in-None.is c.next.ensures.steps in
    let whole : c.loop-row.yielded ≡ c.args.rows.items = sym (map-id c.loop-row.yielded) ∙ ended.0 in
    record {
      ascend = (c.loop-row.invariant.3 c.requires.rows.0 c.requires.rows.1).ascend;
      members = subst (λ rows. HasMembers rows c.loop-row.table.items) whole c.loop-row.invariant.2;
    }
