-- The rows so far were substituted, one by one.
use Rattle.std.proofs.Common.{take}
use Rattle.std.specs.List.{AllZip}
use Rattle.back_substitute.specs.Steps.{IsSubstituted}
use Rattle.back_substitute.proofs.rows.substituted_rows.Given as goal

abbrev pub invariant-loop-row : goal.invariant-loop-row
invariant-loop-row l = AllZip (IsSubstituted l.modulus l.order l.below) (take l.row-index l.rows) l.made.items
