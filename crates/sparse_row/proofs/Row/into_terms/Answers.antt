use Rattle.sparse_row.proofs.TermLists.{Descends-from_pairs}
use Rattle.sparse_row.proofs.RowValues.{coefficient-row_of}
use Rattle.sparse_row.proofs.Row.into_terms.Goals as goal

pub returns-clause-coefficients : goal.returns-clause-coefficients
returns-clause-coefficients c =
    let a = c.self.inside in
    rw (← c.self.view_is) (coefficient-row_of a.order a.terms.items (Descends-from_pairs a.order a.terms.items c.self.invariant.descend))
