-- No term so far is of the unit.
use Rattle.std.proofs.Common.{◌≢◌, ℕ, ◌<◌, get_or}
use Rattle.integral_index.specs.Order.{unit_of}
use Rattle.sparse_row.specs.declared.Term.{Term}
use Rattle.row_tests.proofs.substitution.shows_nothing_of.Given as goal

abbrev pub invariant-loop-term : goal.invariant-loop-term
invariant-loop-term l = (k : ℕ) (d : Term) → k < l.term-index → unit_of (get_or l.terms k d).integral ≢ l.unit
