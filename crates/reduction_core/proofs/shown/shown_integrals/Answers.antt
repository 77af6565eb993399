-- Sorting moves the integrals only.
use Rattle.std.proofs.Common.{rules}
use Rattle.std.specs.Ordering.{is_lt}
use Rattle.std.proofs.lemmas.Fn.{always_returns_same}
use Rattle.std.proofs.lemmas.List.Sorted.{ranks_by, Contains-permutation, IsPermutation-sym}
use Rattle.integral_index.specs.Order.{compare}
use Rattle.integral_index.proofs.Orders.{compare-total}
use Rattle.reduction_core.proofs.shown.shown_integrals.Goals as goal

pub returns : goal.returns
returns c =
    let before = c.in_ok-shown.shown.items in
    let after = c.sort_unstable_by.new.self.items in
    let moved = c.sort_unstable_by.ensures.permutation in
    record {
      ascend = c.sort_unstable_by.ensures.sorted (λ x y. is_lt (compare c.args.order x y)) (ranks_by (compare-total c.args.order) (λ x. x)) (always_returns_same _ _ _ (λ a r q k. search rules));
      members = λ x. (
        λ member. (c.in_ok-shown.ensures x).0 (Contains-permutation after before x (IsPermutation-sym before after moved) member),
        λ is. Contains-permutation before after x moved ((c.in_ok-shown.ensures x).1 is),
      );
    }
