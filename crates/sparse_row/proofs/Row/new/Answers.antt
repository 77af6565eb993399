use Rattle.std.proofs.Common.{[]}
use Rattle.sparse_row.proofs.RowValues.{IsTerms, IsEmpty-row_of, IsRow-row_of}
use Rattle.sparse_row.proofs.Row.new.Goals as goal

pub returns-clause-empty : goal.returns-clause-empty
returns-clause-empty c = rw c.new.ensures.items (IsEmpty-row_of c.args.order)

pub returns-clause-row : goal.returns-clause-row
returns-clause-row c p positive =
    let none : IsTerms p c.args.order [] = record { descend = tt; no_zero = tt; below = tt } in
    rw c.new.ensures.items (IsRow-row_of p c.args.order [] positive none)
