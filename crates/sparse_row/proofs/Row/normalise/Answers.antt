use Rattle.std.proofs.Common.{◌≢◌, ◌<◌, length, map, ap, sym, subst, ◌∙◌, refl, arith}
use Rattle.std.specs.Int.{IsGcd}
use Rattle.std.proofs.lemmas.Bool.{false≢true}
use Rattle.std.proofs.lemmas.Result.{err_from_is_err_and}
use Rattle.field_word.specs.Residues.{IsInverse}
use Rattle.sparse_row.specs.declared.Term.{Term}
use Rattle.sparse_row.specs.Row.{coefficient, IsRow, IsEmpty, IsGreatest, IsPivot}
use Rattle.sparse_row.specs.Terms.{row_of, scaled_term, AllBelow}
use Rattle.sparse_row.proofs.RowValues.{IsTerms, IsTerms-from_list, list_from_IsTerms, below_of_row, IsRow-row_of}
use Rattle.sparse_row.proofs.TermScale.{some_term, coefficient-greatest_of_row, IsTerms-scaled, coefficient-by_inverse, IsPivot-by_inverse}
use Rattle.sparse_row.proofs.Row.normalise.Goals as goal
use Rattle.sparse_row.proofs.Row.normalise.Goals.{After-index-arg-1, After-index, After-scale}

-- the row has a first term
some : (c : After-index-arg-1) → 0 < length c.self.inside.terms.items
some c = let a = c.self.inside in some_term a.order a.terms.items (subst (λ r. IsEmpty r → ⊥) (sym c.self.view_is) c.requires.shown)

residues : (c : After-index-arg-1) → AllBelow c.args.modulus.now c.self.inside.terms.items
residues c =
    let a = c.self.inside in
    below_of_row c.args.modulus.now a.order c.args.self.now.order a.terms.items c.args.self.now c.self.view_is c.self.invariant c.requires.row

-- its coefficient is a residue other than 0
first : (c : After-index) → (c.index.result.now.coefficient ≢ 0) × (c.index.result.now.coefficient < c.args.modulus.now)
first c =
    let within = some (goal.at.inverse-requires-clause-positive c).After-index-arg-1 in
    let below = residues (goal.at.inverse-requires-clause-positive c).After-index-arg-1 in
    let t : Term = c.index.result.now in (
      subst (λ (u : Term). u.coefficient ≢ 0) (sym c.index.ensures) (c.self.invariant.no_zero 0 t within),
      subst (λ (u : Term). u.coefficient < c.args.modulus.now) (sym c.index.ensures) (below 0 t within),
    )

pub index-requires : goal.index-requires
index-requires c = omega (arith, some c, c.self.inside.terms.ok.0)

pub inverse-requires-clause-positive : goal.inverse-requires-clause-positive
inverse-requires-clause-positive c = omega (arith, (first c).0)

pub inverse-requires-clause-below : goal.inverse-requires-clause-below
inverse-requires-clause-below c = (first c).1

pub returns-in_err-inverse-clause-ok : goal.returns-in_err-inverse-clause-ok
returns-in_err-inverse-clause-ok c x greatest =
    let p = err_from_is_err_and c.from_residual.result c.from_residual.ensures.1 in
    let at = coefficient-greatest_of_row c.self.inside.order c.self.inside.terms.items c.index.result.now c.args.self.now c.self.view_is c.self.invariant c.requires.shown c.index.ensures x greatest in (
      λ ok. absurd (false≢true (rw p.1 at ok)),
      λ gcd. absurd (false≢true (c.in_err-inverse.ensures.ok.1 (subst (λ n. IsGcd n c.args.modulus.now 1) at gcd))),
    )

pub returns-in_err-inverse-clause-divisor : goal.returns-in_err-inverse-clause-divisor
returns-in_err-inverse-clause-divisor c =
    let p = err_from_is_err_and c.from_residual.result c.from_residual.ensures.1 in
    rw (p.1, p.2) (λ x greatest.
    let at = coefficient-greatest_of_row c.self.inside.order c.self.inside.terms.items c.index.result.now c.args.self.now c.self.view_is c.self.invariant c.requires.shown c.index.ensures x greatest in
    subst (λ n. IsGcd n c.args.modulus.now c.in_err-inverse.field-0.0.divisor) (sym at) c.in_err-inverse.ensures.divisor)

pub scale-requires-clause-below : goal.scale-requires-clause-below
scale-requires-clause-below c = residues (goal.at.scale-requires-clause-below c).After-index-arg-1

-- the terms before the scaling
terms_before : (c : After-scale) → IsTerms c.args.modulus.now c.self.inside.order c.self.inside.terms.items
terms_before c =
    let below = residues (goal.at.invariant_of-self c).After-index-arg-1 in
    IsTerms-from_list c.args.modulus.now c.self.inside.order c.self.inside.terms.items c.self.invariant below

-- and after it
terms_after : (c : After-scale) → IsTerms c.args.modulus.now c.self.inside.order c.scale.new.terms.items
terms_after c =
    let positive : 0 < c.args.modulus.now = omega (arith, (first (goal.at.invariant_of-self c).After-index).1) in
    rw c.scale.ensures (IsTerms-scaled c.args.modulus.now c.in_ok-inverse.inverse c.self.inside.order c.index.result.now.coefficient c.self.inside.terms.items positive c.in_ok-inverse.ensures.inverse.one (terms_before c))

pub invariant_of-self : goal.invariant_of-self
invariant_of-self c = list_from_IsTerms c.args.modulus.now c.self.inside.order c.scale.new.terms.items (terms_after c)

pub returns-clause-ok : goal.returns-clause-ok
returns-clause-ok c x greatest =
    let at = coefficient-greatest_of_row c.self.inside.order c.self.inside.terms.items c.index.result.now c.args.self.now c.self.view_is c.self.invariant c.requires.shown c.index.ensures x greatest in
    (λ _. subst (λ n. IsGcd n c.args.modulus.now 1) (sym at) (c.in_ok-inverse.ensures.ok.0 refl), λ _. refl)

pub returns-clause-scaled : goal.returns-clause-scaled
returns-clause-scaled c x greatest =
    let a = c.self.inside in
    let p = c.args.modulus.now in
    let at = coefficient-greatest_of_row a.order a.terms.items c.index.result.now c.args.self.now c.self.view_is c.self.invariant c.requires.shown c.index.ensures x greatest in
    let positive : 0 < p = omega (arith, (first (goal.at.returns-clause-scaled c).After-index).1) in (
      c.in_ok-inverse.inverse,
      subst (λ n. IsInverse p n c.in_ok-inverse.inverse) (sym at) c.in_ok-inverse.ensures.inverse,
      λ y.
          rw (c.scale.ensures, ← c.self.view_is) (coefficient-by_inverse p a.order a.terms.items c.index.result.now.coefficient c.in_ok-inverse.inverse positive (terms_before c) c.in_ok-inverse.ensures.inverse y),
    )

pub returns-clause-pivot : goal.returns-clause-pivot
returns-clause-pivot c x greatest =
    let a = c.self.inside in
    let p = c.args.modulus.now in
    let at = coefficient-greatest_of_row a.order a.terms.items c.index.result.now c.args.self.now c.self.view_is c.self.invariant c.requires.shown c.index.ensures x greatest in
    let positive : 0 < p = omega (arith, (first (goal.at.returns-clause-pivot c).After-index).1) in
    let before = subst (λ r. IsGreatest r.order r x) (sym c.self.view_is) greatest in
    let pivot = IsPivot-by_inverse p a.order a.terms.items c.index.result.now.coefficient c.in_ok-inverse.inverse positive (terms_before c) c.in_ok-inverse.ensures.inverse x (ap (λ r. coefficient r x) c.self.view_is ∙ at) before in
    rw c.scale.ensures (subst (λ o. IsPivot o (row_of a.order (map (λ term. scaled_term p c.in_ok-inverse.inverse term) a.terms.items)) x) (ap (λ r. r.order) c.self.view_is) pivot)

pub returns-clause-row : goal.returns-clause-row
returns-clause-row c =
    let positive : 0 < c.args.modulus.now = omega (arith, (first (goal.at.returns-clause-row c).After-index).1) in
    subst (λ o. IsRow c.args.modulus.now o (row_of c.self.inside.order c.scale.new.terms.items)) (ap (λ r. r.order) c.self.view_is)
    (IsRow-row_of c.args.modulus.now c.self.inside.order c.scale.new.terms.items positive (terms_after c))
