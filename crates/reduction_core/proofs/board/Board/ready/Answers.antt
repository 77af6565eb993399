-- The task in turn; where none is and nothing is busy, the state is done.
use Rattle.std.proofs.Common.{◌≡◌, ◌↔◌, [], None, IfOk, subst}
use Rattle.std.specs.Bool.{⊤}
use Rattle.std.specs.Option.{MatchOption}
use Rattle.std.proofs.lemmas.Result.{IfOk-weaker}
use Rattle.sector_machine.specs.Machine.{IsDone}
use Rattle.reduction_core.specs.Slots.{state_of}
use Rattle.reduction_core.specs.Ready.{NoForward, NoBack, IsReady}
use Rattle.reduction_core.specs.Records.{Serves}
use Rattle.reduction_core.proofs.TurnLemmas.{none_where_done}
use Rattle.reduction_core.proofs.BoardLemmas.{turn_serves}
use Rattle.reduction_core.proofs.board.Board.ready.Goals as goal

pub returns-clause-task : goal.returns-clause-task
returns-clause-task c =
    let b = c.self.inside in
    let busy = c.args.busy.now in
    rw (← c.self.view_is)
    (subst (λ slots. IfOk c.task_in_turn.result (λ ready. MatchOption ready (NoForward b.order (state_of slots) busy × NoBack (state_of slots) busy) (λ task. (task.modulus ≡ b.modulus) × IsReady b.order (state_of slots) busy task.work)))
    c.deref.ensures.value c.task_in_turn.ensures)

pub returns-clause-done : goal.returns-clause-done
returns-clause-done c =
    let b = c.self.inside in
    let k = c.self.invariant in
    let busy = c.args.busy.now in
    let state = state_of b.slots.items in
    rw (← c.self.view_is)
    (IfOk-weaker c.task_in_turn.result (λ ready. MatchOption ready (NoForward b.order state busy × NoBack state busy) (λ task. (task.modulus ≡ b.modulus) × IsReady b.order state busy task.work)) (λ ready. busy ≡ [] → (ready ≡ None) ↔ IsDone state)
    (λ ready is. none_where_done b.modulus b.order k.equations state k.holds busy ready is)
    (subst (λ slots. IfOk c.task_in_turn.result (λ ready. MatchOption ready (NoForward b.order (state_of slots) busy × NoBack (state_of slots) busy) (λ task. (task.modulus ≡ b.modulus) × IsReady b.order (state_of slots) busy task.work)))
    c.deref.ensures.value c.task_in_turn.ensures))

pub returns-clause-serves : goal.returns-clause-serves
returns-clause-serves c =
    let b = c.self.inside in
    let k = c.self.invariant in
    let busy = c.args.busy.now in
    let state = state_of b.slots.items in
    rw (← c.self.view_is)
    (IfOk-weaker c.task_in_turn.result (λ ready. MatchOption ready (NoForward b.order state busy × NoBack state busy) (λ task. (task.modulus ≡ b.modulus) × IsReady b.order state busy task.work)) (λ ready. MatchOption ready ⊤ (Serves b.modulus b.order state))
    (λ ready is. turn_serves b.modulus b.order state k busy ready is)
    (subst (λ slots. IfOk c.task_in_turn.result (λ ready. MatchOption ready (NoForward b.order (state_of slots) busy × NoBack (state_of slots) busy) (λ task. (task.modulus ≡ b.modulus) × IsReady b.order (state_of slots) busy task.work)))
    c.deref.ensures.value c.task_in_turn.ensures))
