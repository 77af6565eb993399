use Rattle.std.proofs.Common.{◌≡◌, sym, ap, ◌∙◌}
use Rattle.std.specs.Ordering.{is_eq}
use Rattle.std.specs.Cmp.{Equal-is}
use Rattle.std.proofs.lemmas.Cmp.{tied_itself}
use Rattle.integral_index.specs.Order.{compare}
use Rattle.integral_index.proofs.Orders.{compare-total}
use Rattle.sparse_row.proofs.TermLists.{same_term}
use Rattle.sparse_row.proofs.terms.is_same.Goals as goal

pub returns-then-term-other : goal.returns-then-term-other
returns-then-term-other c =
    let t = c.args.term.now in
    let u = c.args.other.now in
    let is : c.is_eq.result ≡ is_eq (compare c.args.order t.integral u.integral) = c.is_eq.ensures ∙ ap is_eq c.compare.ensures in (
      λ yes. same_term c.args.order t u ((Equal-is _).0 (sym is ∙ yes)) c.if-term-other.true,
      λ e. is ∙ ap is_eq (ap (λ v. compare c.args.order t.integral v.integral) (sym e) ∙ tied_itself (compare-total c.args.order) t.integral),
    )
