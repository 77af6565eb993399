use Rattle.sparse_row.proofs.RowValues.{same_row, greatest_same}
use Rattle.sparse_row.proofs.laws.coefficients_determine_a_row.Goals as goal

pub returns-clause-row : goal.returns-clause-row
returns-clause-row c = same_row

pub returns-clause-greatest : goal.returns-clause-greatest
returns-clause-greatest c = greatest_same
