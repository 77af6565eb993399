-- Each row joins what waits.
use Rattle.std.proofs.Common.{◌≡◌, [], Contains, refl, length, map-id, rules, sym, subst, ◌∙◌}
use Rattle.std.specs.List.{AllZip}
use Rattle.std.proofs.lemmas.Iterator.Adapters.{YieldsList-from_vec}
use Rattle.std.proofs.lemmas.Iterator.Consumers.{YieldsList-turn, YieldsList-end}
use Rattle.std.proofs.lemmas.List.Elements.{Contains-get_or}
use Rattle.integral_index.specs.Order.{unit_of}
use Rattle.sparse_row.specs.Row.{IsRow}
use Rattle.sector_machine.specs.Machine.{Ascends}
use Rattle.reduction_core.specs.Slots.{IsJoined}
use Rattle.reduction_core.proofs.SlotLemmas.{joined_nothing, joined_units, joined_more, Contains-one}
use Rattle.reduction_core.proofs.slots.joined.Goals as goal

pub loop-row-init : goal.loop-row-init
loop-row-init c = (tt, tt, joined_nothing c.args.order [] c.args.slots.items (λ slot. refl))

pub join-requires-clause-ascend : goal.join-requires-clause-ascend
join-requires-clause-ascend c = subst Ascends (sym (joined_units c.args.order c.loop-row.yielded c.args.slots.items c.loop-row.slots.items c.loop-row.invariant.2)) c.requires.ascend

pub join-requires-clause-row : goal.join-requires-clause-row
join-requires-clause-row c =
    let p = c.requires.rows.0 in
    let road = YieldsList-from_vec {s = c.into_iter-row-iterator.result} c.args.rows.items (search rules) (search rules) in
    let turn = YieldsList-turn road c.loop-row.yielded c.loop-row.row-iterator c.loop-row.yielded_by c.next.result c.next.new.self c.in-Some.row c.in-Some.is c.next.ensures.steps in
    (p, subst (IsRow p c.args.order) (sym turn.1) (c.requires.rows.1 (length c.loop-row.yielded) c.in-Some.row turn.0))

pub join-requires-clause-listed : goal.join-requires-clause-listed
join-requires-clause-listed c =
    λ row x member top.
    let road = YieldsList-from_vec {s = c.into_iter-row-iterator.result} c.args.rows.items (search rules) (search rules) in
    let turn = YieldsList-turn road c.loop-row.yielded c.loop-row.row-iterator c.loop-row.yielded_by c.next.result c.next.new.self c.in-Some.row c.in-Some.is c.next.ensures.steps in
    let own : c.in-Some.row ≡ row = Contains-one c.in-Some.row row member in
    let there : Contains c.args.rows.items row = subst (Contains c.args.rows.items) (sym turn.1 ∙ own) (Contains-get_or c.args.rows.items (length c.loop-row.yielded) c.in-Some.row turn.0) in
    subst (λ units. Contains units (unit_of x)) (sym (joined_units c.args.order c.loop-row.yielded c.args.slots.items c.loop-row.slots.items c.loop-row.invariant.2)) (c.requires.listed row x there top)

pub loop-row-preserved : goal.loop-row-preserved
loop-row-preserved c =
    (tt, tt, joined_more c.args.order c.loop-row.yielded c.in-Some.row c.args.slots.items c.loop-row.slots.items c.join.new.slots.items c.loop-row.invariant.2 c.in_ok-join.ensures)

pub returns : goal.returns
returns c =
    let road = YieldsList-from_vec {s = c.into_iter-row-iterator.result} c.args.rows.items (search rules) (search rules) in
    let ended = YieldsList-end road c.loop-row.yielded c.loop-row.row-iterator c.loop-row.yielded_by c.next.result c.next.new.self c.in-None.is c.next.ensures.steps in
    let whole : c.loop-row.yielded ≡ c.args.rows.items = sym (map-id c.loop-row.yielded) ∙ ended.0 in
    subst (λ rows. AllZip (IsJoined c.args.order rows) c.args.slots.items c.loop-row.slots.items) whole c.loop-row.invariant.2
