-- The order of the rows of a task: where there is a row, it is that row's, and else any serves.
use Rattle.std.proofs.Common.{◌≡◌, ℕ, ◌+◌, ◌≤◌, List, [], ◌∷◌, ◌++◌, length, All, sym, subst, arith}
use Rattle.std.proofs.lemmas.List.{nil_from_length}
use Rattle.std.proofs.lemmas.List.Elements.{All-nil, All-head}
use Rattle.integral_index.specs.declared.Order.{Order}
use Rattle.integral_index.specs.declared.Unit.{Unit}
use Rattle.sparse_row.specs.Row.{Row}
use Rattle.sector_forward.specs.Elimination.{IsTaken, IsElimination, IsRuleOf, IsOutside, AreApart, order_of}
use Rattle.back_substitute.specs.Substitution.{AreRules, IsRuleOutside, AreBelow, IsSubstitution, ShowsNoPivotOf}
use Rattle.reduction_core.specs.Task.{Task, MeetsTask}
use Rattle.reduction_core.specs.declared.task.Work.TheVariants as work
use Rattle.reduction_core.specs.declared.records.Record.{Record}
use Rattle.reduction_core.specs.declared.records.Record.TheVariants as outcome

-- ---- forward elimination

pub taken_in_order : (p : ℕ) (order : Order) (unit : Unit) (taken : List Row) → All (IsTaken p order unit) taken → All (IsTaken p (order_of taken) unit) taken
taken_in_order p order unit [] all = All-nil (IsTaken p (order_of []) unit)
taken_in_order p order unit (row ∷ more) all =
    subst (λ o. All (IsTaken p o unit) (row ∷ more)) (sym (All-head (IsTaken p order unit) row more all).is_row.ordered) all

elimination_of_none : (p : ℕ) (order other : Order) (unit : Unit) (rows rest : List Row) → rows ≡ [] → rest ≡ [] → IsElimination p other unit [] rows rest → IsElimination p order unit [] rows rest
elimination_of_none p order other unit rows rest no_rows no_rest e =
    record {
      are_taken = All-nil (IsTaken p order unit);
      are_rules = subst (All (IsRuleOf p order unit)) (sym no_rows) (All-nil (IsRuleOf p order unit));
      apart = subst (AreApart order) (sym no_rows) (λ i j d x h. absurd (omega arith));
      are_outside = subst (All (IsOutside p order unit)) (sym no_rest) (All-nil (IsOutside p order unit));
      span = e.span;
      few = e.few;
    }

pub elimination_in_order : (p : ℕ) (order : Order) (unit : Unit) (taken rows rest : List Row) → All (IsTaken p order unit) taken → IsElimination p (order_of taken) unit taken rows rest → IsElimination p order unit taken rows rest
elimination_in_order p order unit [] rows rest all e =
    let none : length rows + length rest ≤ 0 = e.few in
    elimination_of_none p order (order_of []) unit rows rest (nil_from_length rows (omega arith)) (nil_from_length rest (omega arith)) e
elimination_in_order p order unit (row ∷ more) rows rest all e =
    subst (λ o. IsElimination p o unit (row ∷ more) rows rest) (All-head (IsTaken p order unit) row more all).is_row.ordered e

-- the record of an elimination meets the task
pub elimination_met : (p : ℕ) (unit of_unit : Unit) (taken rows rest : List Row) (task : Task) (made : Record) → of_unit ≡ unit → task ≡ record { modulus = p; work = work.Forward unit taken } → made ≡ outcome.Forward of_unit rows rest → IsElimination p (order_of taken) unit taken rows rest → MeetsTask task made
elimination_met p unit of_unit taken rows rest task made same is_task is_made e =
    subst (λ t. MeetsTask t made) (sym is_task)
    (subst (MeetsTask (record { modulus = p; work = work.Forward unit taken })) (sym is_made) (λ order all. (same, elimination_in_order p order unit taken rows rest all e)))

-- ---- back substitution

-- the rows and the rows below meet their conditions
abbrev pub Meet : ℕ → Order → Unit → List Row → List Row → Type 0
Meet p order unit rows below = AreRules p order unit rows × AreBelow p order unit below

pub meet_in_order : (p : ℕ) (order : Order) (unit : Unit) (rows below : List Row) → Meet p order unit rows below → Meet p (order_of (rows ++ below)) unit rows below
meet_in_order p order unit (row ∷ more) below both =
    subst (λ o. Meet p o unit (row ∷ more) below) (sym (All-head (IsRuleOf p order unit) row more both.0.each).is_row.ordered) both
meet_in_order p order unit [] (row ∷ more) both =
    subst (λ o. Meet p o unit [] (row ∷ more)) (sym (All-head (IsRuleOutside p order unit) row more both.1.each).is_row.ordered) both
meet_in_order p order unit [] [] both = (
  record { each = All-nil (IsRuleOf p (order_of []) unit); apart = λ i j d x h. absurd (omega arith) },
  record { each = All-nil (IsRuleOutside p (order_of []) unit); apart = λ i j d x h. absurd (omega arith) },
)

substitution_of_none : (p : ℕ) (order other : Order) (unit : Unit) (rows : List Row) → rows ≡ [] → Meet p order unit [] [] → IsSubstitution p other unit [] [] rows → IsSubstitution p order unit [] [] rows
substitution_of_none p order other unit rows none both s =
    record {
      given = both.0;
      outside = both.1;
      rules = subst (AreRules p order unit) (sym none) both.0;
      pivots = record { len = s.pivots.len; kept = λ k d x h. absurd (omega arith) };
      clear = subst (All (ShowsNoPivotOf order [])) (sym none) (All-nil (ShowsNoPivotOf order []));
      span = s.span;
    }

pub substitution_in_order : (p : ℕ) (order : Order) (unit : Unit) (input below rows : List Row) → Meet p order unit input below → IsSubstitution p (order_of (input ++ below)) unit input below rows → IsSubstitution p order unit input below rows
substitution_in_order p order unit (row ∷ more) below rows both s =
    subst (λ o. IsSubstitution p o unit (row ∷ more) below rows) (All-head (IsRuleOf p order unit) row more both.0.each).is_row.ordered s
substitution_in_order p order unit [] (row ∷ more) rows both s =
    subst (λ o. IsSubstitution p o unit [] (row ∷ more) rows) (All-head (IsRuleOutside p order unit) row more both.1.each).is_row.ordered s
substitution_in_order p order unit [] [] rows both s =
    substitution_of_none p order (order_of []) unit rows (nil_from_length rows s.pivots.len) both s

-- the record of a back substitution meets the task
pub substitution_met : (p : ℕ) (unit of_unit : Unit) (input below rows : List Row) (task : Task) (made : Record) → of_unit ≡ unit → task ≡ record { modulus = p; work = work.Back unit input below } → made ≡ outcome.Back of_unit rows → IsSubstitution p (order_of (input ++ below)) unit input below rows → MeetsTask task made
substitution_met p unit of_unit input below rows task made same is_task is_made s =
    subst (λ t. MeetsTask t made) (sym is_task)
    (subst (MeetsTask (record { modulus = p; work = work.Back unit input below })) (sym is_made) (λ order both. (same, substitution_in_order p order unit input below rows both s)))
