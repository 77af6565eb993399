use Rattle.std.proofs.Common.{arith}
use Rattle.rational_expressions.proofs.ValueTurns.{opening_refused, opening_taken}
use Rattle.rational_expressions.proofs.value_reader.Reader.action.Goals as goal

pub returns-then-len-ge32-clause-fault : goal.returns-then-len-ge32-clause-fault
returns-then-len-ge32-clause-fault c = λ before later h.
    opening_refused _ before later c.args.self.now _ _ _ c.in-Opening.is (omega arith) h

pub returns-else-len-ge32-clause-ok : goal.returns-else-len-ge32-clause-ok
returns-else-len-ge32-clause-ok c = λ before later h.
    opening_taken _ before later c.args.self.now _ _ _ c.in-Opening.is (omega arith) h
