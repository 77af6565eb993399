-- The greatest integral of one row more is shown by no other.
use Rattle.std.proofs.Common.{◌≡◌, ◌≢◌, ℕ, ◌+◌, ◌<◌, List, length, get_or, refl, sym, subst, ◌∙◌, inl, inr, arith}
use Rattle.std.proofs.lemmas.Bool.{cases_lt}
use Rattle.integral_index.specs.declared.Order.TheVariants.{Standard}
use Rattle.integral_index.specs.Integral.{Integral}
use Rattle.sparse_row.specs.Row.{Row, coefficient, IsRow, IsGreatest, IsPivot}
use Rattle.sparse_row.proofs.RowValues.{greatest_same}
use Rattle.sector_forward.proofs.StepLemmas.{same_at}
use Rattle.row_tests.proofs.substitution.are_apart.Goals.{in-Some+else-not-is_shown_at_most_at, in_default}
use Rattle.row_tests.proofs.substitution.are_apart.Goals as goal

-- one row more whose pivot, if it has one, no other shows
more : (rows : List Row) (i : ℕ) → ((k j : ℕ) (d : Row) (x : Integral) → k < i → j < length rows → k ≢ j → IsPivot Standard (get_or rows k d) x → coefficient (get_or rows j d) x ≡ 0)
    → ((j : ℕ) (d : Row) (x : Integral) → j < length rows → i ≢ j → IsPivot Standard (get_or rows i d) x → coefficient (get_or rows j d) x ≡ 0)
    → (k j : ℕ) (d : Row) (x : Integral) → k < i + 1 → j < length rows → k ≢ j → IsPivot Standard (get_or rows k d) x → coefficient (get_or rows j d) x ≡ 0
more rows i before here k j d x h in_j differ pivot =
    elim (cases_lt k i) [
      | inl l ↦ before k j d x l in_j differ pivot
      | inr u ↦
          let same : k ≡ i = omega arith in
          here j d x in_j (λ e. differ (same ∙ e)) (subst (λ n. IsPivot Standard (get_or rows n d) x) same pivot)
    ]

pub loop-i-preserved : goal.loop-i-preserved
loop-i-preserved c =
    more c.args.rows.now c.loop-i.i c.loop-i.invariant
    (λ j d x in_j differ pivot.
    let row = c.index-rows-i.result in
    let read : get_or c.args.rows.now c.loop-i.i d ≡ row = same_at c.args.rows.now c.loop-i.i d row c.loop-i-test.true ∙ sym c.index-rows-i.is in
    let own : IsPivot Standard row x = subst (λ r. IsPivot Standard r x) read pivot in
    elim c.match-greatest.branch [
      | in-Some+else-not-is_shown_at_most_at w ↦
          let is : IsRow c.args.modulus.now Standard row = subst (IsRow c.args.modulus.now Standard) (sym c.index-rows-i.is) (c.requires c.loop-i.i row c.loop-i-test.true) in
          let top : IsGreatest Standard row w.in-Some.x.now = subst (λ o. IsGreatest o row w.in-Some.x.now) is.ordered w.in-Some.ensures in
          subst (λ y. coefficient (get_or c.args.rows.now j d) y ≡ 0) (greatest_same Standard row w.in-Some.x.now x top own.is_greatest) (w.if-not-is_shown_at_most_at.ensures refl j d in_j differ)
      | in_default w ↦ absurd (own.is_greatest.shown (w.in_default.ensures x))
    ])
