-- Each row goes to its side.
use Rattle.std.proofs.Common.{◌≡◌, length, sym, subst, ◌∙◌, map-id, arith, rules}
use Rattle.std.proofs.lemmas.Iterator.Adapters.{YieldsList-from_vec}
use Rattle.std.proofs.lemmas.Iterator.Consumers.{YieldsList-turn, YieldsList-end}
use Rattle.sector_forward.specs.Steps.{HasPivot}
use Rattle.sector_forward.specs.Parting.{IsParted}
use Rattle.sector_forward.proofs.Parted.{IsParted-start, IsParted-own, IsParted-rest}
use Rattle.sector_forward.proofs.Fronts.{ascend_so_far, front_more, not_true}
use Rattle.sector_forward.proofs.elimination.part.Goals as goal

pub loop-row-init : goal.loop-row-init
loop-row-init c =
    (tt, tt, rw (c.new.ensures.items, c.new-2.ensures.items) (IsParted-start c.args.order c.args.unit), λ k d h. absurd (omega arith))

pub is_of_unit-requires-clause-pivot : goal.is_of_unit-requires-clause-pivot
is_of_unit-requires-clause-pivot c =
    let road = YieldsList-from_vec {s = c.into_iter-row-iterator.result} c.args.rows.items (search rules) (search rules) in
    let turn = YieldsList-turn road c.loop-row.yielded c.loop-row.row-iterator c.loop-row.yielded_by c.next.result c.next.new.self c.in-Some.row c.in-Some.is c.next.ensures.steps in
    subst (HasPivot c.args.order) (sym turn.1) (c.requires.pivots (length c.loop-row.yielded) c.in-Some.row turn.0)

pub loop-row-preserved-in-Continue-1 : goal.loop-row-preserved-in-Continue-1
loop-row-preserved-in-Continue-1 c =
    let rows = c.args.rows.items in
    let row = c.in-Some.row in
    let road = YieldsList-from_vec {s = c.into_iter-row-iterator.result} rows (search rules) (search rules) in
    let turn = YieldsList-turn road c.loop-row.yielded c.loop-row.row-iterator c.loop-row.yielded_by c.next.result c.next.new.self row c.in-Some.is c.next.ensures.steps in
    let pivot = subst (HasPivot c.args.order) (sym turn.1) (c.requires.pivots (length c.loop-row.yielded) row turn.0) in
    let of_unit = (c.is_of_unit.ensures pivot.0 pivot.1).0 (search rules) in
    let above = ascend_so_far c.args.order rows c.loop-row.yielded row turn.0 turn.1 c.requires.ascend c.loop-row.invariant.3 in (
      tt,
      tt,
      rw c.in_ok-push.ensures.items (IsParted-own c.args.order c.args.unit c.loop-row.yielded c.loop-row.parted.own.items c.loop-row.parted.rest.items row c.loop-row.invariant.2 (pivot.0, pivot.1, of_unit) above),
      front_more rows c.loop-row.yielded row turn.0 turn.1 c.loop-row.invariant.3,
    )

pub loop-row-preserved : goal.loop-row-preserved
loop-row-preserved c =
    let rows = c.args.rows.items in
    let row = c.in-Some.row in
    let road = YieldsList-from_vec {s = c.into_iter-row-iterator.result} rows (search rules) (search rules) in
    let turn = YieldsList-turn road c.loop-row.yielded c.loop-row.row-iterator c.loop-row.yielded_by c.next.result c.next.new.self row c.in-Some.is c.next.ensures.steps in
    let pivot = subst (HasPivot c.args.order) (sym turn.1) (c.requires.pivots (length c.loop-row.yielded) row turn.0) in
    let elsewhere = not_true c.is_of_unit.result (c.is_of_unit.ensures pivot.0 pivot.1).1 (search rules) in (
      tt,
      tt,
      rw c.in_ok-push-2.ensures.items (IsParted-rest c.args.order c.args.unit c.loop-row.yielded c.loop-row.parted.own.items c.loop-row.parted.rest.items row c.loop-row.invariant.2 (pivot.0, pivot.1, elsewhere)),
      front_more rows c.loop-row.yielded row turn.0 turn.1 c.loop-row.invariant.3,
    )

pub returns : goal.returns
returns c =
    let road = YieldsList-from_vec {s = c.into_iter-row-iterator.result} c.args.rows.items (search rules) (search rules) in
    let ended = YieldsList-end road c.loop-row.yielded c.loop-row.row-iterator c.loop-row.yielded_by c.next.result c.next.new.self c.in-None.is c.next.ensures.steps in
    let whole : c.loop-row.yielded ≡ c.args.rows.items = sym (map-id c.loop-row.yielded) ∙ ended.0 in
    subst (λ rows. IsParted c.args.order c.args.unit rows c.loop-row.parted.own.items c.loop-row.parted.rest.items) whole c.loop-row.invariant.2
