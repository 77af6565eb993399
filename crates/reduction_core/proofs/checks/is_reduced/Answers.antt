-- An echelon form, sums one way, and sums the other way.
use Rattle.std.proofs.Common.{IsTrue, ◌↔◌, List, ℕ, Vec, Global, map}
use Rattle.std.proofs.lemmas.Result.{IfOk-weaker}
use Rattle.sparse_row.specs.ReducedList.{IsEchelon, IsReduced}
use Rattle.reduction_core.specs.Checks.{AreSums, IsShownReduced}
use Rattle.reduction_core.proofs.CheckLemmas.{exact_answer, reduced_from_shown}
use Rattle.reduction_core.proofs.checks.is_reduced.Goals as goal

abbrev lists : List (Vec ℕ Global) → List (List ℕ)
lists vectors = map (λ list. list.items) vectors

pub returns-clause-exact : goal.returns-clause-exact
returns-clause-exact c =
    let p = c.args.modulus.now in
    let equations = c.args.equations.now in
    let table = c.args.table.now in
    let down = lists c.args.down.now in
    let up = lists c.args.up.now in
    let echelon : IsEchelon p c.args.order table = (c.is_echelon.ensures p c.requires.table).0 c.if-not-is_echelon.false in
    let spanned : AreSums p equations down table = c.in_ok-are_sums.ensures.0 c.if-not-branch.false in
    IfOk-weaker c.are_sums-2.result (λ answer. IsTrue answer ↔ AreSums p table up equations) (λ answer. IsTrue answer ↔ IsShownReduced p c.args.order equations table down up)
    (λ answer says. exact_answer p c.args.order equations table down up answer echelon spanned says) c.are_sums-2.ensures

pub returns-clause-reduced : goal.returns-clause-reduced
returns-clause-reduced c =
    let p = c.args.modulus.now in
    let equations = c.args.equations.now in
    let table = c.args.table.now in
    let down = lists c.args.down.now in
    let up = lists c.args.up.now in
    IfOk-weaker c.are_sums-2.result (λ answer. IsTrue answer ↔ IsShownReduced p c.args.order equations table down up) (λ answer. IsTrue answer → IsReduced p c.args.order equations table)
    (λ answer says test. reduced_from_shown p c.args.order equations table down up (says.0 test)) (returns-clause-exact c)
