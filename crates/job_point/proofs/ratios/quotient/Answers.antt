use Rattle.std.proofs.Common.{arith}
use Rattle.job_point.proofs.ratios.quotient.Goals as goal

pub returns-in-Err-clause-quotient : goal.returns-in-Err-clause-quotient
returns-in-Err-clause-quotient c =
    let reduced = c.reduce-y.ensures.value in
    let divisor = rw c.reduce-y.ensures.value at c.in-Err.ensures.divisor in
    let proper = c.in-Err.ensures.proper in
    ((λ none. absurd (omega arith)), divisor, (λ one. absurd (omega arith)))
