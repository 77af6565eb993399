use Rattle.std.proofs.Common.{◌≡◌, ◌+◌, ◌*◌, ◌%◌, ap, sym, subst, ◌∙◌, arith}
use Rattle.sparse_row.specs.Row.{coefficient, IsRow}
use Rattle.sparse_row.specs.Terms.{IsTermList, row_of}
use Rattle.sparse_row.proofs.RowValues.{below_of_row, coefficient_of_list, row_of_list}
use Rattle.sparse_row.proofs.Row.add_multiple.Goals as goal

pub sum_with_multiple-requires-clause-below : goal.sum_with_multiple-requires-clause-below
sum_with_multiple-requires-clause-below c =
    let a = c.self.inside in
    rw c.deref.ensures.value (below_of_row c.args.modulus.now a.order c.args.self.now.order a.terms.items c.args.self.now c.self.view_is c.self.invariant c.requires.row)

pub sum_with_multiple-requires-clause-other_list : goal.sum_with_multiple-requires-clause-other_list
sum_with_multiple-requires-clause-other_list c =
    let a = c.self.inside in
    let b = c.other.inside in
    let orders : b.order ≡ a.order = ap (λ r. r.order) c.other.view_is ∙ c.requires.other_row.ordered ∙ ap (λ r. r.order) (sym c.self.view_is) in
    rw c.deref-2.ensures.value (subst (λ o. IsTermList o b.terms.items) orders c.other.invariant)

pub sum_with_multiple-requires-clause-other_below : goal.sum_with_multiple-requires-clause-other_below
sum_with_multiple-requires-clause-other_below c =
    let b = c.other.inside in
    rw c.deref-2.ensures.value (below_of_row c.args.modulus.now b.order c.args.self.now.order b.terms.items c.args.other.now c.other.view_is c.other.invariant c.requires.other_row)

pub returns-clause-sum : goal.returns-clause-sum
returns-clause-sum c x =
    let a = c.self.inside in
    let b = c.other.inside in
    let was = ap (λ row. coefficient row x) (sym c.self.view_is) ∙ coefficient_of_list a.order a.terms.items c.self.invariant x in
    let other = ap (λ row. coefficient row x) (sym c.other.view_is) ∙ coefficient_of_list b.order b.terms.items c.other.invariant x in
    let sum = rw (c.deref.ensures.value, c.deref-2.ensures.value) at c.in_ok-sum.ensures.sum x in
    coefficient_of_list a.order c.in_ok-sum.sum.items c.in_ok-sum.ensures.list x ∙ sum
    ∙ (λ i. (sym was i + c.args.factor * sym other i) % c.args.modulus.now)

pub returns-clause-row : goal.returns-clause-row
returns-clause-row c =
    let a = c.self.inside in
    let p = c.args.modulus.now in
    let row = row_of_list p a.order c.in_ok-sum.sum.items (omega (arith, c.requires.residue)) c.in_ok-sum.ensures.list c.in_ok-sum.ensures.below in
    subst (λ o. IsRow p o (row_of a.order c.in_ok-sum.sum.items)) (ap (λ r. r.order) c.self.view_is) row
