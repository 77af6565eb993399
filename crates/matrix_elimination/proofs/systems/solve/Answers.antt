use Rattle.std.proofs.Common.{◌≡◌, ◌≢◌, ◌%◌, All, Option, None, length, get_or, sym, ap, ◌∙◌, subst, arith}
use Rattle.matrix_elimination.specs.declared.elimination.Solved.{Solved}
use Rattle.matrix_elimination.specs.Vectors.{IsVector, dot}
use Rattle.matrix_elimination.specs.Systems.{IsOnlySolution}
use Rattle.matrix_elimination.specs.Solutions.{solution_of, open_entry}
use Rattle.matrix_elimination.proofs.Solutions.{is_only_solution, is_open}
use Rattle.matrix_elimination.proofs.systems.solve.Goals as goal

pub open_vector-requires-clause-sums : goal.open_vector-requires-clause-sums
open_vector-requires-clause-sums c = λ d s has.
    let same = c.deref-in-Some-first_open.ensures.value in
    let is = c.in_ok-eliminated.ensures.elimination in
    let was = is.solved d s (sym (ap (λ ss. get_or ss d None) same) ∙ has) in
    subst (λ n. IsVector c.args.modulus.now n s.entries) (sym (ap length same ∙ is.columns)) was.entries

pub returns-in-Some-first_open-clause-cause : goal.returns-in-Some-first_open-clause-cause
returns-in-Some-first_open-clause-cause c =
    let p = c.args.modulus.now in
    let e = c.in_ok-eliminated.eliminated in
    let same = c.deref-in-Some-first_open.ensures.value in
    let cancels = subst (λ zs. All (λ z. dot z c.args.values.now % p ≡ 0) zs) c.deref.ensures.value c.in_default.ensures in
    let column = c.in-Some-first_open.column in
    let found = c.in-Some-first_open.ensures in
    let vector = c.in_ok-vector-in-Some-first_open in
    is_open p c.args.width c.args.rows.now c.args.values.now e column vector.vector (omega (arith, c.value-p.ensures.modulus.from_3)) c.in_ok-eliminated.ensures.elimination c.requires.rows c.requires.values cancels
    (omega (arith, found.0, ap length c.deref-2.ensures.value)) (sym (ap (λ ss. get_or ss column None) c.deref-2.ensures.value) ∙ found.1)
    (subst (λ n. IsVector p n vector.vector) (ap length same) vector.ensures.vector)
    (λ k h. vector.ensures.entries k (omega (arith, h, ap length same)) ∙ ap (λ ss. open_entry p column k (get_or ss k None)) same)

pub solution-requires-clause-sums : goal.solution-requires-clause-sums
solution-requires-clause-sums c = λ d s has.
    let same = c.deref-in-None.ensures.value in
    let is = c.in_ok-eliminated.ensures.elimination in
    let was = is.solved d s (sym (ap (λ ss. get_or ss d None) same) ∙ has) in
    record {
      entries = subst (λ n. IsVector c.args.modulus.now n s.entries) (sym (ap length same ∙ is.columns)) was.entries;
      multipliers = subst (λ n. IsVector c.args.modulus.now n s.multipliers) (sym c.requires.values.size) was.multipliers;
    }

pub returns-clause-solution : goal.returns-clause-solution
returns-clause-solution c =
    let p = c.args.modulus.now in
    let e = c.in_ok-eliminated.eliminated in
    let cancels = subst (λ zs. All (λ z. dot z c.args.values.now % p ≡ 0) zs) c.deref.ensures.value c.in_default.ensures in
    let closed = subst (λ ss. All (λ (s : Option Solved). s ≢ None) ss) c.deref-2.ensures.value c.in-None.ensures in
    subst (λ xs. IsOnlySolution p c.args.width c.args.rows.now c.args.values.now xs) (sym (c.in_ok-solution-in-None.ensures.value ∙ ap (λ ss. solution_of p ss c.args.values.now) c.deref-in-None.ensures.value))
    (is_only_solution p c.args.width c.args.rows.now c.args.values.now e (omega (arith, c.value-p.ensures.modulus.from_3)) c.in_ok-eliminated.ensures.elimination c.requires.values cancels closed)
