-- The unit of the greatest integral is there, and is the only one to get the row.
use Rattle.std.proofs.Common.{[], Contains, sym, subst}
use Rattle.std.proofs.lemmas.Result.{on_ok_weaker}
use Rattle.integral_index.specs.Order.{unit_of}
use Rattle.sparse_row.specs.Row.{IsGreatest}
use Rattle.sector_forward.proofs.Members.{Contains-here}
use Rattle.reduction_core.specs.Slots.{units_of, IsUnitAt}
use Rattle.reduction_core.proofs.SlotLemmas.{empty_joins_nothing, row_joined}
use Rattle.reduction_core.proofs.slots.join.Goals as goal

pub returns-in-None : goal.returns-in-None
returns-in-None c = empty_joins_nothing c.requires.row.0 c.args.order c.args.row c.args.slots.now.items c.requires.row.1 c.in-None.ensures

pub unreachable-requires : goal.unreachable-requires
unreachable-requires c =
    let row = c.args.row in
    let top : IsGreatest c.args.order row c.in-Some.x.now = subst (λ o. IsGreatest o row c.in-Some.x.now) (c.requires.row.1).ordered c.in-Some.ensures in
    let listed = c.requires.listed row c.in-Some.x.now (Contains-here row []) top in
    c.in-None-place_of.ensures (subst (λ slots. Contains (units_of slots) c.unit-unit.result) (sym c.deref.ensures.value) (subst (Contains (units_of c.args.slots.now.items)) (sym c.unit-unit.ensures) listed))

pub returns : goal.returns
returns c =
    let row = c.args.row in
    let slots = c.args.slots.now.items in
    let x = c.in-Some.x.now in
    let place = c.in-Some-place_of.place in
    let top : IsGreatest c.args.order row x = subst (λ o. IsGreatest o row x) (c.requires.row.1).ordered c.in-Some.ensures in
    let at : IsUnitAt slots (unit_of x) place = subst (λ u. IsUnitAt slots u place) c.unit-unit.ensures (subst (λ ss. IsUnitAt ss c.unit-unit.result place) c.deref.ensures.value c.in-Some-place_of.ensures) in
    on_ok_weaker c.push_at.result (row_joined c.requires.row.0 c.args.order row x place slots c.push_at.new.slots.items c.requires.row.1 top c.requires.ascend at) c.push_at.ensures
