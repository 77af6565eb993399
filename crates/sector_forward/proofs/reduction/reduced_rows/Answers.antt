-- The two passes, over the sorted rows, give the reduced list.
use Rattle.std.proofs.lemmas.List.Sorted.{All-permutation}
use Rattle.sparse_row.specs.Row.{IsRow}
use Rattle.sector_forward.proofs.Backing.{SameSpan-permutation, IsReduced-from_passes}
use Rattle.sector_forward.proofs.reduction.reduced_rows.Goals as goal

pub forward-requires : goal.forward-requires
forward-requires c =
    All-permutation (IsRow c.args.modulus.now c.args.order) c.args.rows.items c.sort_unstable_by.new.self.items c.sort_unstable_by.ensures.permutation c.requires

pub returns-clause-reduced : goal.returns-clause-reduced
returns-clause-reduced c =
    IsReduced-from_passes c.args.modulus.now c.args.order c.args.rows.items c.sort_unstable_by.new.self.items c.in_ok-stairs.stairs.items c.in_ok-back.field-0.items
    (SameSpan-permutation c.args.modulus.now c.args.order c.args.rows.items c.sort_unstable_by.new.self.items c.requires c.sort_unstable_by.ensures.permutation) c.in_ok-stairs.ensures.forward c.in_ok-back.ensures
