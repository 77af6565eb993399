use Rattle.sparse_row.proofs.TermLists.{Descends-from_pairs}
use Rattle.sparse_row.proofs.RowValues.{coefficient-row_of, IsRow-row_of, IsTerms-from_list}
use Rattle.sparse_row.proofs.Row.from_terms.Goals as goal

pub returns-clause-coefficients : goal.returns-clause-coefficients
returns-clause-coefficients c = coefficient-row_of c.args.order c.args.terms.items (Descends-from_pairs c.args.order c.args.terms.items c.requires.descend)

pub returns-clause-row : goal.returns-clause-row
returns-clause-row c p positive below = IsRow-row_of p c.args.order c.args.terms.items positive (IsTerms-from_list p c.args.order c.args.terms.items c.requires below)
