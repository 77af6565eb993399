-- The reduced rows, parted, are an elimination.
use Rattle.std.proofs.Common.{◌≡◌, ◌≤◌, ℕ, List, length, ap, subst, sym, ◌∙◌}
use Rattle.integral_index.specs.declared.Order.{Order}
use Rattle.integral_index.specs.declared.Unit.{Unit}
use Rattle.sparse_row.specs.Row.{Row}
use Rattle.sparse_row.specs.ReducedList.{IsReduced}
use Rattle.sector_forward.specs.Elimination.{IsElimination, order_of}
use Rattle.sector_forward.specs.Parting.{IsParted, ArePartsOfReduced}
use Rattle.sector_forward.proofs.Parted.{IsElimination-from_parted}
use Rattle.sector_forward.proofs.elimination.eliminate.Goals as goal

-- the parts of the reduced list of copies, as those of the rows themselves
abbrev parts : (p : ℕ) (one order : Order) (unit : Unit) (copies taken all own rest : List Row) → one ≡ order → copies ≡ taken → IsReduced p one copies all → IsParted one unit all own rest → ArePartsOfReduced p order unit taken own rest
parts p one order unit copies taken all own rest same equal reduced parted =
    record {
      all = all;
      reduced = subst (λ o. IsReduced p o taken all) same (subst (λ r. IsReduced p one r all) equal reduced);
      parted = subst (λ o. IsParted o unit all own rest) same parted;
    }

pub returns-clause-reduced : goal.returns-clause-reduced
returns-clause-reduced g c =
    parts c.args.modulus c.order_of-order.result (order_of c.args.rows.items) c.args.unit c.in_ok-taken.taken.items c.args.rows.items c.in_ok-reduced.reduced.items
    c.in_ok-parted.parted.own.items c.in_ok-parted.parted.rest.items (c.order_of-order.ensures ∙ ap order_of c.deref.ensures.value)
    (c.in_ok-taken.ensures ∙ c.deref-2.ensures.value) c.in_ok-reduced.ensures.reduced c.in_ok-parted.ensures

pub returns-clause-elimination : goal.returns-clause-elimination
returns-clause-elimination g c =
    let rows = c.args.rows.items in
    let reduced = c.in_ok-reduced.reduced.items in
    let taken : c.in_ok-taken.taken.items ≡ rows = c.in_ok-taken.ensures ∙ c.deref-2.ensures.value in
    let few : length reduced ≤ length rows = subst (λ r. length reduced ≤ length r) taken c.in_ok-reduced.ensures.few in
    let are = parts c.args.modulus c.order_of-order.result (order_of rows) c.args.unit c.in_ok-taken.taken.items rows reduced
    c.in_ok-parted.parted.own.items c.in_ok-parted.parted.rest.items (c.order_of-order.ensures ∙ ap order_of c.deref.ensures.value)
    taken c.in_ok-reduced.ensures.reduced c.in_ok-parted.ensures in
    IsElimination-from_parted c.args.modulus (order_of rows) c.args.unit rows reduced c.in_ok-parted.parted.own.items c.in_ok-parted.parted.rest.items
    c.requires are.reduced few are.parted

pub invariant_of-result : goal.invariant_of-result
invariant_of-result g c =
    let m = c.args.modulus in
    let rows = c.args.rows.items in
    let own = c.in_ok-parted.parted.own.items in
    let rest = c.in_ok-parted.parted.rest.items in
    let reduced = c.in_ok-reduced.reduced.items in
    let order : c.order_of-order.result ≡ order_of rows = c.order_of-order.ensures ∙ ap order_of c.deref.ensures.value in
    let taken : c.in_ok-taken.taken.items ≡ rows = c.in_ok-taken.ensures ∙ c.deref-2.ensures.value in
    let few : length reduced ≤ length rows = subst (λ r. length reduced ≤ length r) taken c.in_ok-reduced.ensures.few in
    let are = parts m c.order_of-order.result (order_of rows) c.args.unit c.in_ok-taken.taken.items rows reduced own rest order taken c.in_ok-reduced.ensures.reduced c.in_ok-parted.ensures in
    let whole = IsElimination-from_parted m (order_of rows) c.args.unit rows reduced own rest c.requires are.reduced few are.parted in
    record {
      modulus = c.value-p.ensures.modulus;
      elimination = subst (λ o. IsElimination m o c.args.unit rows own rest) (sym order) whole;
    }
