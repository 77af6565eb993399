-- The counter stands on a new ledger.
use Rattle.app_tests.proofs.calls.run.Given as goal

abbrev pub ghosts-counted : goal.ghosts-counted
ghosts-counted a = record { name = a.blank.name; parts = a.blank.parts }
