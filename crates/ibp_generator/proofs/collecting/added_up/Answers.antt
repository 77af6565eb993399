-- One term more of the sorted list.
use Rattle.std.proofs.Common.{List, sym, subst, ◌∙◌, ap, ◌%◌}
use Rattle.std.proofs.lemmas.List.{take_all, get_or_default}
use Rattle.sparse_row.specs.declared.Term.{Term}
use Rattle.sparse_row.specs.Terms.{total_at}
use Rattle.ibp_generator.specs.Collecting.{SameTotals}
use Rattle.ibp_generator.proofs.CollectingLemmas.{Adding, Adding-more, Adding-no_less, Adding-none}
use Rattle.ibp_generator.proofs.collecting.added_up.Goals as goal

pub loop-term-init : goal.loop-term-init
loop-term-init c = subst (λ (kept : List Term). Adding c.args.modulus.now c.args.order c.args.sorted.now kept 0) (sym c.new-kept.ensures.items) (Adding-none c.args.modulus.now c.args.order c.args.sorted.now)

pub add_sorted-requires-clause-descend : goal.add_sorted-requires-clause-descend
add_sorted-requires-clause-descend c = c.loop-term.invariant.descend

pub add_sorted-requires-clause-below : goal.add_sorted-requires-clause-below
add_sorted-requires-clause-below c = c.loop-term.invariant.below

pub add_sorted-requires-clause-no_less : goal.add_sorted-requires-clause-no_less
add_sorted-requires-clause-no_less c =
    Adding-no_less c.args.modulus.now c.args.order c.args.sorted.now c.loop-term.kept.items c.loop-term.term-index c.term-item.result c.loop-term-test.true
    (λ d. get_or_default c.args.sorted.now c.loop-term.term-index d c.term-item.result c.loop-term-test.true ∙ sym c.term-item.is)
    c.loop-term.invariant c.requires.sorted

pub loop-term-preserved : goal.loop-term-preserved
loop-term-preserved c =
    Adding-more c.args.modulus.now c.args.order c.args.sorted.now c.loop-term.kept.items c.loop-term.term-index c.term-item.result c.loop-term-test.true
    (λ d. get_or_default c.args.sorted.now c.loop-term.term-index d c.term-item.result c.loop-term-test.true ∙ sym c.term-item.is)
    c.loop-term.invariant c.add_sorted.new.kept.items c.in_ok-add_sorted.ensures

pub returns-clause-descend : goal.returns-clause-descend
returns-clause-descend c = c.loop-term.invariant.descend

pub returns-clause-below : goal.returns-clause-below
returns-clause-below c = c.loop-term.invariant.below

pub returns-clause-totals : goal.returns-clause-totals
returns-clause-totals c =
    subst (λ (ts : List Term). SameTotals c.args.modulus.now c.loop-term.kept.items ts) (take_all c.loop-term.term-index c.args.sorted.now c.loop-term-test.false) c.loop-term.invariant.totals
