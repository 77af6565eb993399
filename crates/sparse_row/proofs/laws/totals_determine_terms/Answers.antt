use Rattle.sparse_row.proofs.RowValues.{same_terms, coefficient_of_list}
use Rattle.sparse_row.proofs.laws.totals_determine_terms.Goals as goal

pub returns-clause-list : goal.returns-clause-list
returns-clause-list c = same_terms

pub returns-clause-row : goal.returns-clause-row
returns-clause-row c = coefficient_of_list
