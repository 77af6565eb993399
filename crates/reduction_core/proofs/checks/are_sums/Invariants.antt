-- The sums so far are those of their multipliers.
use Rattle.std.proofs.Common.{ℕ, ◌<◌, [], map, slice_index_or}
use Rattle.sparse_row.specs.Row.{Row}
use Rattle.reduction_core.specs.Checks.{IsSum}
use Rattle.reduction_core.proofs.checks.are_sums.Given as goal

abbrev pub invariant-loop-k : goal.invariant-loop-k
invariant-loop-k l =
    (k : ℕ) (d : Row) → k < l.k → IsSum l.modulus l.rows (slice_index_or (map (λ list. list.items) l.multipliers) k []) (slice_index_or l.sums k d)
