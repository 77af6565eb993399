use Rattle.sparse_row.proofs.TermEdits.{coefficient_found, coefficient_absent}
use Rattle.sparse_row.proofs.Row.coefficient.Goals as goal

pub returns-in-Ok : goal.returns-in-Ok
returns-in-Ok c =
    let a = c.self.inside in
    let found = rw c.deref.ensures.value at c.in-Ok.ensures.found in
    rw (← c.self.view_is) (coefficient_found a.order a.terms.items c.args.x.now c.in-Ok.place c.index.result.now c.self.invariant found.0 found.1 c.index.ensures)

pub returns-in-Err : goal.returns-in-Err
returns-in-Err c =
    let a = c.self.inside in
    let absent = rw c.deref.ensures.value at c.in-Err.ensures.absent in
    rw (← c.self.view_is) (coefficient_absent a.order a.terms.items c.args.x.now c.in-Err.field-0 c.self.invariant absent.1 absent.2)
