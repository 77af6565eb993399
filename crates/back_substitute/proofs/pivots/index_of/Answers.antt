-- Sorting moves the entries only.
use Rattle.std.proofs.Common.{rules}
use Rattle.std.specs.Ordering.{is_lt}
use Rattle.std.proofs.lemmas.Fn.{always_returns_same}
use Rattle.std.proofs.lemmas.List.Sorted.{ranks_by}
use Rattle.integral_index.proofs.Orders.{compare-total}
use Rattle.back_substitute.specs.Pivots.{by_pivot}
use Rattle.back_substitute.proofs.Index.{IsListing-permutation}
use Rattle.back_substitute.proofs.pivots.index_of.Goals as goal

pub returns : goal.returns
returns c =
    record {
      listing = IsListing-permutation c.args.order c.args.rows.now c.in_ok-index.index.items c.sort_unstable_by.new.self.items c.sort_unstable_by.ensures.permutation c.in_ok-index.ensures;
      ascend = c.sort_unstable_by.ensures.sorted (λ x y. is_lt (by_pivot c.args.order x y)) (ranks_by (compare-total c.args.order) (λ e. e.pivot)) (always_returns_same _ _ _ (λ a r q k. search rules));
    }
