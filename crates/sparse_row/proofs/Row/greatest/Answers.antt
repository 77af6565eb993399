use Rattle.std.proofs.Common.{◌≡◌, List, [], ◌∷◌, Some, None, ap, sym, ◌∙◌}
use Rattle.std.specs.Prelude.{slice_get}
use Rattle.std.specs.Option.{option_copied}
use Rattle.integral_index.specs.declared.Order.{Order}
use Rattle.sparse_row.specs.declared.Term.{Term}
use Rattle.sparse_row.specs.Row.{IsGreatest, IsEmpty}
use Rattle.sparse_row.specs.Terms.{IsTermList, row_of}
use Rattle.sparse_row.proofs.RowValues.{IsGreatest-head, IsEmpty-row_of}
use Rattle.sparse_row.proofs.Row.greatest.Goals as goal

greatest_at : (order : Order) (ts : List Term) (t : Term) → IsTermList order ts → slice_get ts 0 ≡ Some t → IsGreatest order (row_of order ts) t.integral
greatest_at order [] t list e = absurd (cc)
greatest_at order (u ∷ ts) t list e = let same : u ≡ t = cc in rw (← same) (IsGreatest-head order u ts list)

empty_at : (order : Order) (ts : List Term) → slice_get ts 0 ≡ None → IsEmpty (row_of order ts)
empty_at order [] e = IsEmpty-row_of order
empty_at order (u ∷ ts) e = absurd (cc)

pub returns-in-Some : goal.returns-in-Some
returns-in-Some c =
    let a = c.self.inside in
    rw (← c.self.view_is) (greatest_at a.order a.terms.items c.in-Some.term.now c.self.invariant (ap (λ s. slice_get s 0) (sym c.deref.ensures.value) ∙ sym c.first.ensures.value ∙ ap option_copied c.in-Some.is))

pub returns-in-None : goal.returns-in-None
returns-in-None c =
    let a = c.self.inside in
    rw (← c.self.view_is) (empty_at a.order a.terms.items (ap (λ s. slice_get s 0) (sym c.deref.ensures.value) ∙ sym c.first.ensures.value ∙ ap option_copied c.in-None.is))
