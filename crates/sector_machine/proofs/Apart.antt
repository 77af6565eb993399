-- Rows no pivot of which is shown by another of them.
use Rattle.std.proofs.Common.{◌≡◌, Bool, List, get_or, AllPairs, Contains, filter, flat_map, sym, ap, subst, ◌∙◌, inl, inr, arith}
use Rattle.std.proofs.lemmas.Bool.{cases_lt, cases_eq}
use Rattle.integral_index.specs.Integral.{Integral}
use Rattle.integral_index.specs.declared.Order.{Order}
use Rattle.sparse_row.specs.Row.{Row, coefficient, Shows, IsPivot}
use Rattle.sector_forward.specs.Elimination.{AreApart}
use Rattle.sector_forward.proofs.StepLemmas.{same_at}
use Rattle.sector_machine.proofs.Lists.{AllPairs-filter, AllPairs-joined}

module _ (order : Order) where
  -- neither of two rows shows the pivot of the other
  pub record AreTwoApart (row other : Row) : Type 0 where
    pub first : (x : Integral) → IsPivot order row x → coefficient other x ≡ 0
    pub second : (x : Integral) → IsPivot order other x → coefficient row x ≡ 0

  pub pairs_from_apart : (rows : List Row) → AreApart order rows → AllPairs AreTwoApart rows
  pairs_from_apart rows apart i j d l h =
      record {
        first = λ x pivot. apart i j d x (omega arith) h (λ e. absurd (omega arith)) pivot;
        second = λ x pivot. apart j i d x h (omega arith) (λ e. absurd (omega arith)) pivot;
      }

  pub apart_from_pairs : (rows : List Row) → AllPairs AreTwoApart rows → AreApart order rows
  apart_from_pairs rows pairs i j d x in_i in_j differ pivot =
      elim (cases_lt i j) [
        | inl less ↦ (pairs i j d less in_j).first x pivot
        | inr more ↦ (pairs j i d (omega (arith, differ)) in_i).second x pivot
      ]

  pub AreApart-filter : (test : Row → Bool) (rows : List Row) → AreApart order rows → AreApart order (filter test rows)
  AreApart-filter test rows apart =
      apart_from_pairs (filter test rows) (AllPairs-filter AreTwoApart test rows (pairs_from_apart rows apart))

  pub AreApart-joined : {X : Type 0} (part : X → List Row) (L : X → X → Type 0) (xs : List X) → ((x : X) → AreApart order (part x)) → AllPairs L xs → ((x y : X) (row other : Row) → L x y → Contains (part x) row → Contains (part y) other → AreTwoApart row other) → AreApart order (flat_map part xs)
  AreApart-joined part L xs each pairs across =
      apart_from_pairs (flat_map part xs) (AllPairs-joined part AreTwoApart L xs (λ x. pairs_from_apart (part x) (each x)) pairs across)

  -- a row that shows the pivot of one of the rows is that row
  pub only_itself : (rows : List Row) (row other : Row) (x : Integral) → AreApart order rows → Contains rows row → Contains rows other → IsPivot order row x → Shows other x → other ≡ row
  only_itself rows row other x apart in_row in_other pivot shows =
      let i = in_row.0 in
      let j = in_other.0 in
      elim (cases_eq i j) [
        | inl same ↦ sym in_other.2 ∙ ap (λ n. get_or rows n other) (sym same) ∙ same_at rows i other row in_row.1 ∙ in_row.2
        | inr differ ↦
            let top : IsPivot order (get_or rows i other) x = subst (λ r. IsPivot order r x) (sym in_row.2 ∙ same_at rows i row other in_row.1) pivot in
            absurd (shows (ap (λ r. coefficient r x) (sym in_other.2) ∙ apart i j other x in_row.1 in_other.1 differ top))
      ]
