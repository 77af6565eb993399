use Rattle.std.proofs.Common.{◌≡◌, ◌+◌, ◌%◌, ap, sym, ◌∙◌, refl, zero-add, arith}
use Rattle.std.proofs.Math.Nat.{zero-mod, mod-eq_of_lt}
use Rattle.sparse_row.specs.declared.Term.{Term}
use Rattle.sparse_row.specs.Terms.{total_at}
use Rattle.sparse_row.proofs.TermEdits.{total_at-of_place, total_at-removed_same, total_at-removed_other, IsTermList-put, total_at-put_same, total_at-put_other, total_at-absent, IsTermList-insert, total_at-inserted_same, total_at-inserted_other}
use Rattle.sparse_row.proofs.terms.add_term.Goals as goal

pub returns-then-sum-eq0-clause-sum : goal.returns-then-sum-eq0-clause-sum
returns-then-sum-eq0-clause-sum c =
    let ts = c.args.terms.now.items in
    let t : Term = c.index.result.now in
    let found = rw c.deref.ensures.value at c.in-Ok.ensures.found in
    let at : t.integral ≡ c.args.integral.now = ap (λ u. u.integral) c.index.ensures ∙ found.1 t in
    let was = total_at-of_place c.args.order ts c.in-Ok.place t c.requires.list found.0 (sym c.index.ensures) in
    let now = total_at-removed_same c.args.order ts c.in-Ok.place t c.requires.list found.0 (sym c.index.ensures) in
    rw (c.remove.ensures.items, ← at) (now ∙ sym c.if-sum-eq0.true ∙ c.add-sum.ensures.value ∙ ap (λ n. (n + c.args.addend) % c.args.modulus.now) (sym was))

pub returns-then-sum-eq0-clause-others : goal.returns-then-sum-eq0-clause-others
returns-then-sum-eq0-clause-others c x differ =
    let ts = c.args.terms.now.items in
    let t : Term = c.index.result.now in
    let found = rw c.deref.ensures.value at c.in-Ok.ensures.found in
    let at : t.integral ≡ c.args.integral.now = ap (λ u. u.integral) c.index.ensures ∙ found.1 t in
    rw c.remove.ensures.items (total_at-removed_other c.args.order ts c.in-Ok.place t c.requires.list found.0 (sym c.index.ensures) x (λ e. differ (e ∙ at)))

pub returns-else-sum-eq0-clause-list : goal.returns-else-sum-eq0-clause-list
returns-else-sum-eq0-clause-list c =
    let ts = c.args.terms.now.items in
    let t : Term = c.index_mut.result.now in
    let u : Term = record { integral = t.integral; coefficient = c.add-sum.result } in
    let found = rw c.deref.ensures.value at c.in-Ok.ensures.found in
    IsTermList-put c.args.order ts c.in-Ok.place t c.requires.list found.0 (sym c.index_mut.ensures.value) u refl c.if-sum-eq0.false

pub returns-else-sum-eq0-clause-sum : goal.returns-else-sum-eq0-clause-sum
returns-else-sum-eq0-clause-sum c =
    let ts = c.args.terms.now.items in
    let s : Term = c.index.result.now in
    let t : Term = c.index_mut.result.now in
    let u : Term = record { integral = t.integral; coefficient = c.add-sum.result } in
    let found = rw c.deref.ensures.value at c.in-Ok.ensures.found in
    let at_s : s.integral ≡ c.args.integral.now = ap (λ v. v.integral) c.index.ensures ∙ found.1 s in
    let at_t : t.integral ≡ c.args.integral.now = ap (λ v. v.integral) c.index_mut.ensures.value ∙ found.1 t in
    let was : total_at c.args.integral.now ts ≡ s.coefficient =
    ap (λ x. total_at x ts) (sym at_s) ∙ total_at-of_place c.args.order ts c.in-Ok.place s c.requires.list found.0 (sym c.index.ensures) in
    let now = total_at-put_same c.args.order ts c.in-Ok.place t c.requires.list found.0 (sym c.index_mut.ensures.value) u refl in
    rw (← at_t) now ∙ c.add-sum.ensures.value ∙ ap (λ n. (n + c.args.addend) % c.args.modulus.now) (sym was)

pub returns-else-sum-eq0-clause-others : goal.returns-else-sum-eq0-clause-others
returns-else-sum-eq0-clause-others c x differ =
    let ts = c.args.terms.now.items in
    let t : Term = c.index_mut.result.now in
    let u : Term = record { integral = t.integral; coefficient = c.add-sum.result } in
    let found = rw c.deref.ensures.value at c.in-Ok.ensures.found in
    let at_t : t.integral ≡ c.args.integral.now = ap (λ v. v.integral) c.index_mut.ensures.value ∙ found.1 t in
    total_at-put_other c.args.order ts c.in-Ok.place t c.requires.list found.0 (sym c.index_mut.ensures.value) u refl x (λ e. differ (e ∙ at_t))

pub returns-in_ok-insert-in-Err-clause-list : goal.returns-in_ok-insert-in-Err-clause-list
returns-in_ok-insert-in-Err-clause-list c =
    let ts = c.args.terms.now.items in
    let u : Term = record { integral = c.args.integral.now; coefficient = c.args.addend } in
    let absent = rw c.deref.ensures.value at c.in-Err.ensures.absent in
    rw c.in_ok-insert-in-Err.ensures.items (IsTermList-insert c.args.order ts c.in-Err.place c.args.integral.now c.requires.list absent.1 absent.2 u refl c.if-addend-ne0.true)

pub returns-in_ok-insert-in-Err-clause-sum : goal.returns-in_ok-insert-in-Err-clause-sum
returns-in_ok-insert-in-Err-clause-sum c =
    let ts = c.args.terms.now.items in
    let u : Term = record { integral = c.args.integral.now; coefficient = c.args.addend } in
    let absent = rw c.deref.ensures.value at c.in-Err.ensures.absent in
    let was = total_at-absent c.args.order ts c.in-Err.place c.args.integral.now c.requires.list absent.1 absent.2 in
    rw (c.in_ok-insert-in-Err.ensures.items, was)
    (total_at-inserted_same c.args.order ts c.in-Err.place c.args.integral.now c.requires.list absent.1 absent.2 u refl ∙ sym (ap (λ n. n % c.args.modulus.now) (zero-add c.args.addend) ∙ mod-eq_of_lt c.requires.residue))

pub returns-in_ok-insert-in-Err-clause-others : goal.returns-in_ok-insert-in-Err-clause-others
returns-in_ok-insert-in-Err-clause-others c x differ =
    let ts = c.args.terms.now.items in
    let u : Term = record { integral = c.args.integral.now; coefficient = c.args.addend } in
    let absent = rw c.deref.ensures.value at c.in-Err.ensures.absent in
    rw c.in_ok-insert-in-Err.ensures.items (total_at-inserted_other c.args.order ts c.in-Err.place c.args.integral.now c.requires.list absent.1 absent.2 u refl x differ)

pub returns-else-addend-ne0-clause-sum : goal.returns-else-addend-ne0-clause-sum
returns-else-addend-ne0-clause-sum c =
    let absent = rw c.deref.ensures.value at c.in-Err.ensures.absent in
    let was = total_at-absent c.args.order c.args.terms.now.items c.in-Err.place c.args.integral.now c.requires.list absent.1 absent.2 in
    let none : c.args.addend ≡ 0 = omega arith in
    rw was (sym (ap (λ n. (0 + n) % c.args.modulus.now) none ∙ zero-mod c.args.modulus.now))
