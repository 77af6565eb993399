-- Each term is taken away where it is of a pivot.
use Rattle.std.proofs.Common.{◌<◌, sym, subst}
use Rattle.std.proofs.lemmas.List.{take_all}
use Rattle.std.proofs.lemmas.Result.{IfOk-weaker}
use Rattle.sparse_row.proofs.RowValues.{below_of_row}
use Rattle.back_substitute.specs.Steps.{IsSubstituted}
use Rattle.back_substitute.specs.Sums.{IsSumOf}
use Rattle.back_substitute.proofs.Clearing.{IsPassing-start, IsPassing-step, IsSubstituted-end}
use Rattle.back_substitute.proofs.rows.substituted.Goals as goal

pub loop-term-init : goal.loop-term-init
loop-term-init c =
    rw (c.in_ok-push.ensures.items, c.new-parts.ensures.items)
    (IsPassing-start c.args.modulus.now c.args.order c.args.below.now c.terms-terms.result.now c.args.row.now c.in_ok-copy.field-0 c.requires.row c.in_ok-copy.ensures)

pub push_multiple-requires-clause-parts : goal.push_multiple-requires-clause-parts
push_multiple-requires-clause-parts c = c.loop-term.invariant.are_rows

pub push_multiple-requires-clause-residue : goal.push_multiple-requires-clause-residue
push_multiple-requires-clause-residue c =
    let row = c.args.row.now in
    let terms = c.terms-terms.result.now in
    let below = below_of_row c.args.modulus.now row.order c.args.order terms row c.terms-terms.ensures.value c.terms-terms.ensures.list c.requires.row in
    subst (λ t. t.coefficient < c.args.modulus.now) (sym c.term-item.is) (below c.loop-term.term-index c.term-item.result c.loop-term-test.true)

pub loop-term-preserved : goal.loop-term-preserved
loop-term-preserved c =
    IsPassing-step c.args.modulus.now c.args.order c.args.below.now c.terms-terms.result.now c.loop-term.term-index c.args.row.now c.loop-term.parts.items c.push_multiple.new.parts.items c.term-item.result c.loop-term-test.true c.term-item.is
    c.in_ok-push_multiple.ensures c.loop-term.invariant

pub returns : goal.returns
returns c =
    let terms = c.terms-terms.result.now in
    IfOk-weaker c.sum_of.result (IsSumOf c.args.modulus.now c.args.order c.loop-term.parts.items) (IsSubstituted c.args.modulus.now c.args.order c.args.below.now c.args.row.now)
    (λ row sum.
    IsSubstituted-end c.args.modulus.now c.args.order c.args.below.now terms c.loop-term.term-index c.args.row.now row c.loop-term.parts.items c.requires.row c.terms-terms.ensures.coefficients (take_all c.loop-term.term-index terms c.loop-term-test.false) c.loop-term.invariant sum)
    c.sum_of.ensures
