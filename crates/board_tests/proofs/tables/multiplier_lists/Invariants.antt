-- One list for each so far.
use Rattle.std.proofs.Common.{◌≡◌, All, length}
use Rattle.reduction_core.specs.Checks.{IsMultiplierList}
use Rattle.board_tests.proofs.tables.multiplier_lists.Given as goal

abbrev pub invariant-loop-numbers : goal.invariant-loop-numbers
invariant-loop-numbers l = (length l.made.items ≡ l.numbers-index) × All (λ list. IsMultiplierList l.modulus l.rows list.items) l.made.items
