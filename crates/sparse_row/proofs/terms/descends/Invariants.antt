use Rattle.std.proofs.Common.{take}
use Rattle.std.specs.Prelude.{AllPairs}
use Rattle.sparse_row.specs.Terms.{IsAbove}
use Rattle.sparse_row.proofs.terms.descends.Given as goal

abbrev pub invariant-loop-i : goal.invariant-loop-i
invariant-loop-i l = AllPairs (IsAbove l.order) (take l.i l.terms)
