-- An elimination before its first row, and after its last.
use Rattle.std.proofs.Common.{◌≡◌, ℕ, suc, ◌+◌, ◌%◌, ◌≤◌, List, [], ◌∷◌, length, get_or, All, Option, Some, None, is_some, count_by, cond, refl, sym, ap, ◌∙◌, subst, arith}
use Rattle.std.proofs.lemmas.List.Elements.{All-nil}
use Rattle.std.proofs.lemmas.List.{get_or_default}
use Rattle.std.proofs.lemmas.List.Sums.{sum_by-cons}
use Rattle.matrix_elimination.specs.declared.elimination.Solved.{Solved}
use Rattle.matrix_elimination.specs.declared.elimination.Eliminated.{Eliminated}
use Rattle.matrix_elimination.specs.Vectors.{dot}
use Rattle.matrix_elimination.specs.Elimination.{entries_at, HasSum, IsCancelled, IsElimination}
use Rattle.matrix_elimination.specs.Steps.{IsPartial}

counted_none : (solved : List (Option Solved)) → ((c : ℕ) → get_or solved c None ≡ None) → count_by is_some solved ≡ 0
counted_none [] none = refl
counted_none (o ∷ solved) none =
    let rest : count_by is_some solved ≡ 0 = counted_none solved (λ c. none (suc c)) in
    let first : count_by is_some (o ∷ solved) ≡ 0 + count_by is_some solved = sum_by-cons (λ s. cond (is_some s) 1 0) o solved ∙ ap (λ b. cond b 1 0 + count_by is_some solved) (ap is_some (none 0)) in
    omega (arith, rest, first)

pub partial_open : (p width : ℕ) (rows : List (List ℕ)) (e : Eliminated) → length e.solved.items ≡ width → ((c : ℕ) → get_or e.solved.items c None ≡ None) → e.cancelled.items ≡ [] → IsPartial p width rows (length rows) e
partial_open p width rows e columns none cancelled =
    let nothing : (c : ℕ) (s : Solved) → HasSum e.solved.items c s → None ≡ Some s = λ c s has. sym (none c) ∙ has in
    record {
      columns = columns;
      counted = omega (arith, counted_none e.solved.items none, ap length cancelled);
      solved = λ c s has. let clash : None ≡ Some s = nothing c s has in cc;
      untaken = λ c s has i h. let clash : None ≡ Some s = nothing c s has in cc;
      cancelled = subst (All (IsCancelled p rows)) (sym cancelled) (All-nil (IsCancelled p rows));
      spans = λ j low high x. absurd (omega arith);
      backed = λ j low high. absurd (omega arith);
    }

pub elimination_of : (p width : ℕ) (rows : List (List ℕ)) (k : ℕ) (e : Eliminated) → k ≤ 0 → IsPartial p width rows k e → IsElimination p width rows e
elimination_of p width rows k e end part = record {
  columns = part.columns;
  counted = omega (arith, part.counted);
  solved = part.solved;
  cancelled = part.cancelled;
  spans = λ j d high x.
      subst (λ (row : List ℕ). get_or row x 0 ≡ dot row (entries_at x e.solved.items) % p) (get_or_default rows j [] d high) (part.spans j (omega arith) high x);
  backed = λ j high. part.backed j (omega arith) high;
}
