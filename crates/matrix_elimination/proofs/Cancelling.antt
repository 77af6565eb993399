-- A row of which nothing is left.
use Rattle.std.proofs.Common.{◌≡◌, ℕ, ◌+◌, ◌*◌, ◌%◌, ◌<◌, ◌≤◌, List, [], ◌∷◌, ◌++◌, length, map, get_or, replicate, All, None, is_some, count_by, sym, ap, ◌∙◌, subst, arith, add-zero, zero-add, inl, inr}
use Rattle.std.proofs.Math.Nat.{one-mul, zero-mul}
use Rattle.std.proofs.lemmas.Bool.{cases_eq}
use Rattle.std.proofs.lemmas.List.{map-append, length-map, length-replicate, length-append}
use Rattle.std.proofs.lemmas.List.Elements.{All-push}
use Rattle.matrix_elimination.specs.declared.elimination.Solved.{Solved}
use Rattle.matrix_elimination.specs.declared.elimination.Eliminated.{Eliminated}
use Rattle.matrix_elimination.specs.Vectors.{dot, column}
use Rattle.matrix_elimination.specs.Elimination.{entries_at, multipliers_at, IsSolved, IsCancelled, IsBacked}
use Rattle.matrix_elimination.specs.Steps.{IsPartial}
use Rattle.matrix_elimination.proofs.Weights.{dot-append, dot-zeros, unit_at-here, unit_at-other}
use Rattle.matrix_elimination.proofs.Taking.{IsTaking, first_multipliers}

is_cancelled : (p width : ℕ) (rows : List (List ℕ)) (place : ℕ) (e : Eliminated) (sum : Solved) → IsTaking p width rows place e sum → ((x : ℕ) → get_or sum.entries x 0 ≡ 0) → IsCancelled p rows sum.multipliers
is_cancelled p width rows place e sum t none = record {
  vector = t.is_sum.multipliers;
  cancels = λ x. sym (t.balanced x) ∙ none x;
  leads = record {
    place = place;
    one = first_multipliers p width rows place e sum t place (omega arith) ∙ unit_at-here place;
    zeros = λ i h. first_multipliers p width rows place e sum t i (omega arith) ∙ unit_at-other place i (λ same. absurd (omega arith));
  };
}

-- a weight of a list, and of the list with one more
weights_push : (weights : List ℕ) (zs : List (List ℕ)) (z : List ℕ) (w i : ℕ) → length weights ≡ length zs → dot (weights ++ w ∷ []) (column i (zs ++ z ∷ [])) ≡ dot weights (column i zs) + w * get_or z i 0
weights_push weights zs z w i size =
    let at : List ℕ → ℕ = λ v. get_or v i 0 in
    ap (dot (weights ++ w ∷ [])) (map-append at zs (z ∷ []))
    ∙ dot-append weights (map at zs) (w ∷ []) (get_or z i 0 ∷ []) (omega (arith, length-map zs at))
    ∙ ap (λ n. dot weights (map at zs) + n) (add-zero (w * get_or z i 0))

module _ (p width : ℕ) (rows : List (List ℕ)) (place : ℕ) (e after : Eliminated) (sum : Solved) (t : IsTaking p width rows place e sum) (none : (x : ℕ) → get_or sum.entries x 0 ≡ 0) (solved : after.solved.items ≡ e.solved.items) (cancelled : after.cancelled.items ≡ e.cancelled.items ++ sum.multipliers ∷ []) where
  row_sum : (x : ℕ) → get_or (get_or rows place []) x 0 ≡ dot (get_or rows place []) (entries_at x after.solved.items) % p
  row_sum x =
      sym (t.entries x) ∙ ap (λ n. (n + dot (get_or rows place []) (entries_at x e.solved.items)) % p) (none x) ∙ ap (λ n. n % p) (zero-add _)
      ∙ ap (λ ss. dot (get_or rows place []) (entries_at x ss) % p) (sym solved)

  spanned : (j : ℕ) → place ≤ j → j < length rows → (x : ℕ) → get_or (get_or rows j []) x 0 ≡ dot (get_or rows j []) (entries_at x after.solved.items) % p
  spanned j low high x =
      elim (cases_eq j place) [
        | inl same ↦ subst (λ k. get_or (get_or rows k []) x 0 ≡ dot (get_or rows k []) (entries_at x after.solved.items) % p) (sym same) (row_sum x)
        | inr other ↦ t.part.spans j (omega arith) high x ∙ ap (λ ss. dot (get_or rows j []) (entries_at x ss) % p) (sym solved)
      ]

  -- the weights of a row behind, and those of the row itself
  backed_before : (j : ℕ) → IsBacked p rows e j → IsBacked p rows after j
  backed_before j b = record {
    weights = b.weights ++ 0 ∷ [];
    size = length-append b.weights (0 ∷ []) ∙ ap (λ n. n + 1) b.size ∙ sym (length-append e.cancelled.items (sum.multipliers ∷ [])) ∙ ap length (sym cancelled);
    is = λ i h.
        let weighed : dot (b.weights ++ 0 ∷ []) (column i after.cancelled.items) ≡ dot b.weights (column i e.cancelled.items) =
        ap (λ zs. dot (b.weights ++ 0 ∷ []) (column i zs)) cancelled ∙ weights_push b.weights e.cancelled.items sum.multipliers 0 i b.size ∙ ap (λ n. dot b.weights (column i e.cancelled.items) + n) (zero-mul (get_or sum.multipliers i 0)) ∙ add-zero _ in
        b.is i h ∙ ap (λ n. (dot (get_or rows j []) (multipliers_at i e.solved.items) + n) % p) (sym weighed) ∙ ap (λ ss. (dot (get_or rows j []) (multipliers_at i ss) + dot (b.weights ++ 0 ∷ []) (column i after.cancelled.items)) % p) (sym solved);
  }

  backed_row : IsBacked p rows after place
  backed_row =
      let zeros : List ℕ = replicate (length e.cancelled.items) 0 in
      let size : length zeros ≡ length e.cancelled.items = length-replicate (length e.cancelled.items) 0 in
      record {
        weights = zeros ++ 1 ∷ [];
        size = length-append zeros (1 ∷ []) ∙ ap (λ n. n + 1) size ∙ sym (length-append e.cancelled.items (sum.multipliers ∷ [])) ∙ ap length (sym cancelled);
        is = λ i h.
            let d : ℕ = dot (get_or rows place []) (multipliers_at i e.solved.items) in
            let weighed : dot (zeros ++ 1 ∷ []) (column i after.cancelled.items) ≡ get_or sum.multipliers i 0 =
            ap (λ zs. dot (zeros ++ 1 ∷ []) (column i zs)) cancelled ∙ weights_push zeros e.cancelled.items sum.multipliers 1 i size
            ∙ ap (λ n. n + 1 * get_or sum.multipliers i 0) (dot-zeros (length e.cancelled.items) (column i e.cancelled.items)) ∙ zero-add _ ∙ one-mul _ in
            sym (t.multipliers i h) ∙ ap (λ n. n % p) (let turn : get_or sum.multipliers i 0 + d ≡ d + get_or sum.multipliers i 0 = omega arith in turn) ∙ ap (λ n. (d + n) % p) (sym weighed)
            ∙ ap (λ ss. (dot (get_or rows place []) (multipliers_at i ss) + dot (zeros ++ 1 ∷ []) (column i after.cancelled.items)) % p) (sym solved);
      }

  backed : (j : ℕ) → place ≤ j → j < length rows → IsBacked p rows after j
  backed j low high =
      elim (cases_eq j place) [
        | inl same ↦ subst (IsBacked p rows after) (sym same) backed_row
        | inr other ↦ backed_before j (t.part.backed j (omega arith) high)
      ]

  pub partial_cancelled : IsPartial p width rows place after
  partial_cancelled =
      let part : IsPartial p width rows (place + 1) e = t.part in
      record {
        columns = ap length solved ∙ part.columns;
        counted = omega (arith, part.counted, ap (count_by is_some) solved, ap length cancelled, length-append e.cancelled.items (sum.multipliers ∷ []));
        solved = λ c s has. subst (λ ss. IsSolved p width rows ss c s) (sym solved) (part.solved c s (sym (ap (λ ss. get_or ss c None) solved) ∙ has));
        untaken = λ c s has i h. part.untaken c s (sym (ap (λ ss. get_or ss c None) solved) ∙ has) i (omega arith);
        cancelled = subst (All (IsCancelled p rows)) (sym cancelled) (All-push (IsCancelled p rows) e.cancelled.items sum.multipliers part.cancelled (is_cancelled p width rows place e sum t none));
        spans = spanned;
        backed = backed;
      }
