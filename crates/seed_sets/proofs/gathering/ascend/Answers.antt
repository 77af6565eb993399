use Rattle.std.proofs.Common.{rules, List, subst, sym}
use Rattle.std.specs.Prelude.{Contains}
use Rattle.std.specs.Ordering.{is_lt, is_eq}
use Rattle.std.proofs.lemmas.Fn.{always_returns_same, dedup_same}
use Rattle.std.proofs.lemmas.List.Kept.{Contains-from_dedup}
use Rattle.std.proofs.lemmas.List.Sorted.{ranks_by, Contains-permutation, IsPermutation-sym}
use Rattle.integral_index.specs.Integral.{Integral}
use Rattle.integral_index.specs.Order.{compare}
use Rattle.integral_index.proofs.Orders.{compare-total}
use Rattle.seed_sets.specs.Seeds.{Ascends}
use Rattle.seed_sets.proofs.AscendingLists.{Ascends-dedup, Contains-dedup_order}
use Rattle.seed_sets.proofs.gathering.ascend.Goals as goal

pub returns-clause-ascends : goal.returns-clause-ascends
returns-clause-ascends c =
    let order = c.args.order in
    let is = dedup_same _ (λ x y. is_eq (compare order x y)) _ (λ x y b f' x' y' k. search rules) _ _ c.dedup_by.ensures.filtered in
    let sorted = c.sort_unstable_by.ensures.sorted (λ x y. is_lt (compare order x y)) (ranks_by (compare-total order) (λ x. x)) (always_returns_same _ _ _ (λ a r q k. search rules)) in
    subst (Ascends order) (sym is) (Ascends-dedup order _ sorted)

pub returns-clause-members : goal.returns-clause-members
returns-clause-members c = λ y.
    let order = c.args.order in
    let is = dedup_same _ (λ x y. is_eq (compare order x y)) _ (λ x y b f' x' y' k. search rules) _ _ c.dedup_by.ensures.filtered in
    let moved = c.sort_unstable_by.ensures.permutation in (
      λ m. Contains-permutation _ _ y (IsPermutation-sym _ _ moved) (Contains-from_dedup _ _ y (subst (λ (xs : List Integral). Contains xs y) is m)),
      λ m. subst (λ (xs : List Integral). Contains xs y) (sym is) (Contains-dedup_order order _ y (Contains-permutation _ _ y moved m)),
    )
