-- What a row shows is the integral of a term.
use Rattle.std.proofs.Common.{ap, ◌∙◌, arith}
use Rattle.integral_index.specs.Order.{unit_of}
use Rattle.sparse_row.specs.declared.Term.{Term}
use Rattle.sector_forward.proofs.Shown.{term_of_shown}
use Rattle.row_tests.proofs.substitution.shows_nothing_of.Goals as goal

pub returns : goal.returns
returns c =
    λ _ x shows of_unit.
    let terms = c.terms-terms.result.now in
    let found = term_of_shown x terms (λ e. shows (c.terms-terms.ensures.coefficients x ∙ e)) in
    let d : Term = record { integral = x; coefficient = 0 } in
    c.loop-term.invariant found.0 d (omega (arith, found.1, c.loop-term-test.false)) (ap unit_of (found.2 d) ∙ of_unit)
