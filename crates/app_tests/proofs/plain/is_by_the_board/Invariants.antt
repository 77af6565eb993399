-- The counter stands on a new ledger.
use Rattle.app_tests.proofs.plain.is_by_the_board.Given as goal

abbrev pub ghosts-by_the_board : goal.ghosts-by_the_board
ghosts-by_the_board a = record { name = a.blank.name; parts = a.blank.parts }
