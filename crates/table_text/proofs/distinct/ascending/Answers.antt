use Rattle.std.proofs.Common.{rules, List, sym, subst}
use Rattle.std.specs.Prelude.{◌↔◌, Contains}
use Rattle.std.specs.Ordering.{is_lt}
use Rattle.std.specs.List.Sorted.{IsSorted}
use Rattle.std.proofs.lemmas.Fn.{always_returns_same}
use Rattle.std.proofs.lemmas.List.Sorted.{ranks_by, Contains-permutation, IsPermutation-sym}
use Rattle.integral_index.specs.Integral.{Integral}
use Rattle.integral_index.specs.Order.{compare}
use Rattle.integral_index.proofs.Orders.{compare-total}
use Rattle.table_text.proofs.DistinctLemmas.{if_ok_weaker}
use Rattle.table_text.proofs.distinct.ascending.Goals as goal

pub without_repeats-requires : goal.without_repeats-requires
without_repeats-requires c =
    subst (λ (xs : List Integral). IsSorted (compare c.args.order) xs) (sym c.deref.ensures.value)
    (c.sort_unstable_by.ensures.sorted (λ x y. is_lt (compare c.args.order x y)) (ranks_by (compare-total c.args.order) (λ x. x)) (always_returns_same _ _ _ (λ a r q k. search rules)))

pub returns-clause-members : goal.returns-clause-members
returns-clause-members c =
    if_ok_weaker c.without_repeats.result (λ kept members x.
    let moved = c.sort_unstable_by.ensures.permutation in
    let found = subst (λ (xs : List Integral). Contains kept.items x ↔ Contains xs x) c.deref.ensures.value (members x) in (
      λ m. Contains-permutation _ _ x (IsPermutation-sym _ _ moved) (found.0 m),
      λ m. found.1 (Contains-permutation _ _ x moved m),
    ))
    c.without_repeats.ensures.members
