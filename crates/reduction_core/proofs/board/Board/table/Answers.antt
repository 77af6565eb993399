-- The back rows ascend in one way, and where the state is done they are the reduced list.
use Rattle.std.proofs.Common.{◌≡◌, All, sym, ap, subst, ◌∙◌}
use Rattle.sparse_row.specs.Row.{IsRow}
use Rattle.sector_forward.specs.Steps.{HasPivot}
use Rattle.sector_machine.specs.Machine.{back_rows, IsDone}
use Rattle.sector_machine.proofs.Lists.{All-from_members}
use Rattle.sector_machine.proofs.Rows.{back_are_rows, back_pivot}
use Rattle.sector_machine.proofs.Done.{table_is_reduced}
use Rattle.reduction_core.specs.Slots.{state_of}
use Rattle.reduction_core.proofs.OneTable.{one_list_of_equations}
use Rattle.reduction_core.proofs.AscendingLemmas.{table_from_ascending, table_is_echelon}
use Rattle.reduction_core.proofs.board.Board.table.Goals as goal

pub ascending-requires-clause-rows : goal.ascending-requires-clause-rows
ascending-requires-clause-rows c =
    let b = c.self.inside in
    let k = c.self.invariant in
    let is : c.in_ok-rows.rows.items ≡ back_rows (state_of b.slots.items) = c.in_ok-rows.ensures ∙ ap (λ slots. back_rows (state_of slots)) c.deref.ensures.value in
    (b.modulus, subst (All (IsRow b.modulus b.order)) (sym is) (back_are_rows b.modulus b.order k.equations (state_of b.slots.items) k.holds))

pub ascending-requires-clause-pivots : goal.ascending-requires-clause-pivots
ascending-requires-clause-pivots c =
    let b = c.self.inside in
    let k = c.self.invariant in
    let is : c.in_ok-rows.rows.items ≡ back_rows (state_of b.slots.items) = c.in_ok-rows.ensures ∙ ap (λ slots. back_rows (state_of slots)) c.deref.ensures.value in
    subst (All (HasPivot b.order)) (sym is)
    (All-from_members (HasPivot b.order) (back_rows (state_of b.slots.items)) (back_pivot b.modulus b.order k.equations (state_of b.slots.items) k.holds))

pub of_rows-requires : goal.of_rows-requires
of_rows-requires c =
    let b = c.self.inside in
    let k = c.self.invariant in
    let is : c.in_ok-rows.rows.items ≡ back_rows (state_of b.slots.items) = c.in_ok-rows.ensures ∙ ap (λ slots. back_rows (state_of slots)) c.deref.ensures.value in
    table_is_echelon b.modulus b.order k.equations (state_of b.slots.items) c.in_ok-rows-2.rows.items k.holds
    (table_from_ascending b.order (state_of b.slots.items) c.in_ok-rows.rows.items c.in_ok-rows-2.rows.items is c.in_ok-rows-2.ensures)

pub returns-clause-table : goal.returns-clause-table
returns-clause-table c =
    let b = c.self.inside in
    let is : c.in_ok-rows.rows.items ≡ back_rows (state_of b.slots.items) = c.in_ok-rows.ensures ∙ ap (λ slots. back_rows (state_of slots)) c.deref.ensures.value in
    rw (c.of_rows.ensures, ← c.self.view_is)
    (table_from_ascending b.order (state_of b.slots.items) c.in_ok-rows.rows.items c.in_ok-rows-2.rows.items is c.in_ok-rows-2.ensures)

pub returns-clause-reduced : goal.returns-clause-reduced
returns-clause-reduced c =
    let b = c.self.inside in
    let is : c.in_ok-rows.rows.items ≡ back_rows (state_of b.slots.items) = c.in_ok-rows.ensures ∙ ap (λ slots. back_rows (state_of slots)) c.deref.ensures.value in
    let done : IsDone (state_of b.slots.items) = subst (λ v. IsDone v.state) (sym c.self.view_is) c.requires in
    rw (c.of_rows.ensures, ← c.self.view_is)
    (λ equations holds.
    table_is_reduced b.modulus b.order equations (state_of b.slots.items) holds done c.in_ok-rows-2.rows.items
    (table_from_ascending b.order (state_of b.slots.items) c.in_ok-rows.rows.items c.in_ok-rows-2.rows.items is c.in_ok-rows-2.ensures))

pub returns-clause-only : goal.returns-clause-only
returns-clause-only c =
    let b = c.self.inside in
    let is : c.in_ok-rows.rows.items ≡ back_rows (state_of b.slots.items) = c.in_ok-rows.ensures ∙ ap (λ slots. back_rows (state_of slots)) c.deref.ensures.value in
    let done : IsDone (state_of b.slots.items) = subst (λ v. IsDone v.state) (sym c.self.view_is) c.requires in
    rw (c.of_rows.ensures, ← c.self.view_is)
    (λ equations other holds reduced.
    one_list_of_equations b.modulus b.order equations other c.in_ok-rows-2.rows.items reduced
    (table_is_reduced b.modulus b.order equations (state_of b.slots.items) holds done c.in_ok-rows-2.rows.items
    (table_from_ascending b.order (state_of b.slots.items) c.in_ok-rows.rows.items c.in_ok-rows-2.rows.items is c.in_ok-rows-2.ensures)))
