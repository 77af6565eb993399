use Rattle.std.proofs.Common.{List, sym, subst, ◌∙◌}
use Rattle.std.specs.Prelude.{◌↔◌, Contains}
use Rattle.std.proofs.lemmas.List.{take_all, get_or_default}
use Rattle.integral_index.specs.Integral.{Integral}
use Rattle.table_text.proofs.DistinctLemmas.{Keeps, Keeps-more, Keeps-none}
use Rattle.table_text.proofs.distinct.without_repeats.Goals as goal

pub loop-integral-init : goal.loop-integral-init
loop-integral-init c = subst (λ (kept : List Integral). Keeps c.args.order c.args.sorted.now kept 0) (sym c.new-kept.ensures.items) (Keeps-none c.args.order c.args.sorted.now)

pub loop-integral-preserved : goal.loop-integral-preserved
loop-integral-preserved c =
    Keeps-more c.args.order c.args.sorted.now c.loop-integral.kept.items c.loop-integral.integral-index c.integral-item.result c.requires c.loop-integral-test.true
    (λ d. get_or_default c.args.sorted.now c.loop-integral.integral-index d c.integral-item.result c.loop-integral-test.true ∙ sym c.integral-item.is)
    c.loop-integral.invariant c.push_once.new.kept.items c.in_ok-push_once.ensures

pub returns-clause-members : goal.returns-clause-members
returns-clause-members c = λ x.
    subst (λ (xs : List Integral). Contains c.loop-integral.kept.items x ↔ Contains xs x) (take_all c.loop-integral.integral-index c.args.sorted.now c.loop-integral-test.false) (c.loop-integral.invariant.members x)
