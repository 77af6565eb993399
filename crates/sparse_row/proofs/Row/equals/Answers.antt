use Rattle.std.proofs.Common.{◌≡◌, ap, sym, subst, ◌∙◌, rules}
use Rattle.sparse_row.specs.Terms.{IsTermList, row_of}
use Rattle.sparse_row.proofs.RowValues.{terms_of_row}
use Rattle.sparse_row.proofs.Row.equals.Goals as goal

pub returns-then-eq : goal.returns-then-eq
returns-then-eq c =
    let a = c.self.inside in
    let b = c.other.inside in
    let orders : a.order ≡ b.order = search rules in
    let by_list = rw (c.deref.ensures.value, c.deref-then-eq.ensures.value) at c.equal.ensures in
    let other_list = subst (λ o. IsTermList o b.terms.items) (sym orders) c.other.invariant in (
      λ yes. sym c.self.view_is ∙ (λ i. row_of (orders i) (by_list.0 yes i)) ∙ c.other.view_is,
      λ e.
          let rows = c.self.view_is ∙ e ∙ sym c.other.view_is in
          by_list.1 (terms_of_row a.order a.terms.items b.terms.items c.self.invariant other_list (rows ∙ ap (λ o. row_of o b.terms.items) (sym orders))),
    )
