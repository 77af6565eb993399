-- One residue for each number so far.
use Rattle.std.proofs.Common.{◌≡◌, ◌<◌, All, length}
use Rattle.board_tests.proofs.tables.multipliers.Given as goal

abbrev pub invariant-loop-number : goal.invariant-loop-number
invariant-loop-number l = (length l.list.items ≡ l.number-index) × All (λ m. m < l.modulus) l.list.items
