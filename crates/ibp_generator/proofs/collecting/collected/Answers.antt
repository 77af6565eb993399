-- The terms are sorted, added up and kept where they aren't 0.
use Rattle.std.proofs.Common.{◌≡◌, ◌<◌, ◌%◌, List, ℕ, sym, subst, ap, ◌∙◌, arith, rules}
use Rattle.std.specs.Ordering.{flip_args, is_lt}
use Rattle.std.specs.List.Sorted.{IsSorted}
use Rattle.std.proofs.lemmas.Cmp.{back_total}
use Rattle.std.proofs.lemmas.Fn.{always_returns_same}
use Rattle.std.proofs.lemmas.List.Sorted.{ranks_by, All-permutation}
use Rattle.integral_index.specs.Integral.{Integral}
use Rattle.integral_index.specs.Order.{compare}
use Rattle.integral_index.proofs.Orders.{compare-total}
use Rattle.sparse_row.specs.declared.Term.{Term}
use Rattle.sparse_row.specs.Row.{IsRow}
use Rattle.sparse_row.specs.Terms.{AllBelow, IsTermList}
use Rattle.ibp_generator.specs.Collecting.{SameTotals, downwards}
use Rattle.ibp_generator.proofs.CollectingLemmas.{AllBelow-dropped, IsTermList-dropped, sums_of}
use Rattle.ibp_generator.proofs.collecting.collected.Goals as goal

pub added_up-requires-clause-sorted : goal.added_up-requires-clause-sorted
added_up-requires-clause-sorted c =
    subst (λ (ts : List Term). IsSorted (downwards c.args.order) ts) (sym c.deref.ensures.value)
    (c.sort_unstable_by.ensures.sorted (λ (s t : Term). is_lt (downwards c.args.order s t)) (ranks_by (back_total (compare-total c.args.order)) (λ (t : Term). t.integral)) (always_returns_same _ _ _ (λ a r q k. search rules)))

pub added_up-requires-clause-below : goal.added_up-requires-clause-below
added_up-requires-clause-below c =
    subst (λ (ts : List Term). AllBelow c.args.modulus.now ts) (sym c.deref.ensures.value)
    (All-permutation (λ (t : Term). t.coefficient < c.args.modulus.now) _ _ c.sort_unstable_by.ensures.permutation c.requires)

pub from_terms-requires : goal.from_terms-requires
from_terms-requires c = subst (IsTermList c.args.order) (sym c.drop_zeros.ensures) (IsTermList-dropped c.args.order c.in_ok-kept.kept.items c.in_ok-kept.ensures.descend)

pub returns-clause-row : goal.returns-clause-row
returns-clause-row c =
    c.from_terms.ensures.row c.args.modulus.now (omega (arith, c.value-p.ensures.modulus.from_3))
    (subst (λ (ts : List Term). AllBelow c.args.modulus.now ts) (sym c.drop_zeros.ensures) (AllBelow-dropped c.args.modulus.now c.in_ok-kept.kept.items c.in_ok-kept.ensures.below))

pub returns-clause-sums : goal.returns-clause-sums
returns-clause-sums c =
    sums_of c.args.modulus.now c.args.order c.args.terms.items c.sort_unstable_by.new.self.items c.in_ok-kept.kept.items c.drop_zeros.new.kept.items c.from_terms.result
    c.sort_unstable_by.ensures.permutation
    (subst (λ (ts : List Term). SameTotals c.args.modulus.now c.in_ok-kept.kept.items ts) c.deref.ensures.value c.in_ok-kept.ensures.totals)
    c.drop_zeros.ensures (returns-clause-row c) c.from_terms.ensures.coefficients
