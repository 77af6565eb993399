use Rattle.std.proofs.Common.{◌≡◌, length, sym, subst, arith}
use Rattle.std.proofs.lemmas.Bool.Decides.{nat_tests}
use Rattle.sparse_row.specs.Row.{IsEmpty}
use Rattle.sparse_row.proofs.RowValues.{IsEmpty-from_length, length-from_empty}
use Rattle.sparse_row.proofs.Row.is_empty.Goals as goal

pub returns : goal.returns
returns c =
    let a = c.self.inside in
    let count = a.terms.ok.0 in (
      λ yes.
          let none : length a.terms.items ≡ 0 = grind (arith, nat_tests) in
          rw (← c.self.view_is) (IsEmpty-from_length a.order a.terms.items none),
      λ empty.
          let none : length a.terms.items ≡ 0 = length-from_empty a.order a.terms.items c.self.invariant (subst IsEmpty (sym c.self.view_is) empty) in
          grind (arith, nat_tests),
    )
