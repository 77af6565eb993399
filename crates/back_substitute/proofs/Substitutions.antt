-- Rows of a unit that were cleared one by one are a back substitution.
use Rattle.std.proofs.Common.{◌≡◌, ◌≢◌, ℕ, ◌+◌, ◌*◌, ◌%◌, ◌<◌, List, [], ◌++◌, length, get_or, All, sym, ap, subst, ◌∙◌, inl, inr, arith, add-zero, zero-add}
use Rattle.std.specs.List.{AllZip}
use Rattle.std.specs.declared.cmp.Ordering.TheVariants.{Greater}
use Rattle.std.proofs.Math.Nat.{add-mod, mod-mod, mod-eq_of_lt}
use Rattle.std.proofs.lemmas.List.{length-map}
use Rattle.std.proofs.lemmas.List.Elements.{All-append, AllZip-get_or, length_all_zip, Contains-get_or, Contains-append_left, Contains-append_right}
use Rattle.integral_index.specs.declared.Order.{Order}
use Rattle.integral_index.specs.declared.Unit.{Unit}
use Rattle.integral_index.specs.Integral.{Integral}
use Rattle.integral_index.specs.Order.{compare, unit_of}
use Rattle.sparse_row.specs.Row.{Row, coefficient, Shows, IsRow, IsPivot}
use Rattle.sparse_row.specs.Span.{combination, InSpan, SameSpan}
use Rattle.sparse_row.proofs.Spans.{at, combination-none, combination-some}
use Rattle.sparse_row.proofs.RowSpans.{no_row, functions, at-functions, IsSpanned-from_row, InSpan-from_function, AllSpanned-from_rows, InSpan-member}
use Rattle.sparse_row.proofs.RowValues.{greatest_same}
use Rattle.sector_forward.proofs.Keys.{decided}
use Rattle.sector_forward.proofs.Taking.{members_spanned, spanned_by_difference, differ_turned}
use Rattle.back_substitute.specs.Substitution.{AreRules, AreBelow, HavePivotsOf, IsSubstitution}
use Rattle.back_substitute.specs.Steps.{IsSubstituted}
use Rattle.back_substitute.proofs.Multipliers.{times_nothing, nothing_times, at_pivot, not_above}

module _ (p : ℕ) (order : Order) (unit : Unit) (below : List Row) (outside : AreBelow p order unit below) where
  -- at an integral of the unit the rows below add nothing
  nothing_of_unit : (c : ℕ → ℕ) (x : Integral) → unit_of x ≡ unit → combination c (functions below) x % p ≡ 0
  nothing_of_unit c x of_unit =
      combination-none p c (functions below) x
      (λ k h.
      let in_k : k < length below = omega (arith, length-map below coefficient) in
      let row : Row = get_or below k no_row in
      let none : coefficient row x ≡ 0 = elim (decided (coefficient row x)) [ inl e ↦ e | inr shows ↦ absurd ((outside.each k no_row in_k).none x shows of_unit) ] in
      ap (λ f. (c k * f x) % p) (at-functions below k no_row in_k) ∙ times_nothing p (c k) (coefficient row x) none)

  -- ---- one row

  module _ (old new : Row) (is : IsRow p order old) (s : IsSubstituted p order below old new) where
    added : Integral → ℕ
    added = combination s.differ.multiplier (functions below)

    sum_is : (y : Integral) → coefficient new y ≡ (coefficient old y + added y) % p
    unfolding added
    sum_is y = sym (mod-eq_of_lt (s.is_row.below y)) ∙ s.differ.is y

    -- the coefficients of the unit stay
    pub stays_in_unit : (y : Integral) → unit_of y ≡ unit → coefficient new y ≡ coefficient old y
    unfolding added
    stays_in_unit y of_unit =
        sum_is y ∙ add-mod (coefficient old y) (added y) p ∙ ap (λ u. (coefficient old y % p + u) % p) (nothing_of_unit s.differ.multiplier y of_unit)
        ∙ ap (λ u. u % p) (add-zero (coefficient old y % p)) ∙ mod-mod (coefficient old y) p ∙ mod-eq_of_lt (is.below y)

    -- where the row showed nothing, what it shows was added
    only_added : (y : Integral) → coefficient old y ≡ 0 → coefficient new y ≡ added y % p
    unfolding added
    only_added y none = sum_is y ∙ ap (λ u. (u + added y) % p) none ∙ ap (λ u. u % p) (zero-add (added y))

    -- only rows whose pivots the row shows are added, so nothing is added above its own pivot
    shown_not_above : (x y : Integral) → IsPivot order old x → Shows new y → compare order y x ≢ Greater
    unfolding added
    shown_not_above x y pivot shows =
        elim (decided (coefficient old y)) [
          | inr some ↦ pivot.is_greatest.greatest y some
          | inl none ↦
              let m : ℕ → ℕ = s.differ.multiplier in
              let part = combination-some p m (functions below) y (λ e. shows (only_added y none ∙ e)) in
              let k = part.0 in
              let in_k : k < length below = omega (arith, part.1, length-map below coefficient) in
              let rule : Row = get_or below k no_row in
              let z = ((outside.each k no_row in_k).pivot).0 in
              let top : IsPivot order rule z = ((outside.each k no_row in_k).pivot).1 in
              let rule_shows : Shows rule y =
              λ e. part.2 (ap (λ f. (m k * f y) % p) (at-functions below k no_row in_k) ∙ times_nothing p (m k) (coefficient rule y) e) in
              let counts : m k % p ≢ 0 = λ e. part.2 (nothing_times p (m k) (at (functions below) k y) e) in
              let gone : coefficient new z ≡ 0 = s.clear rule z (Contains-get_or below k no_row in_k) top in
              let old_shows : Shows old z =
              λ e. counts (sym (at_pivot p order below m k no_row z outside.apart in_k top) ∙ sym (only_added z e) ∙ gone) in
              not_above order y z x (top.is_greatest.greatest y rule_shows) (pivot.is_greatest.greatest z old_shows)
        ]

    pub pivot_stays : (x : Integral) → IsPivot order old x → unit_of x ≡ unit → IsPivot order new x
    pivot_stays x pivot of_unit =
        let one : coefficient new x ≡ 1 = stays_in_unit x of_unit ∙ pivot.one in
        record {
          is_greatest = record { shown = λ e. absurd (omega (arith, one)); greatest = λ y shows. shown_not_above x y pivot shows };
          one = one;
        }

    -- each of the two rows is spanned by the other and the rows below
    pub old_spanned : (rows : List Row) → All (InSpan p rows) below → InSpan p rows new → InSpan p rows old
    old_spanned rows each new_in =
        InSpan-from_function p rows old is.below
        (spanned_by_difference p (functions rows) below old new (differ_turned p below new old (positive no_integral) s.differ) (AllSpanned-from_rows p below rows each) (IsSpanned-from_row p rows new new_in))
      where
        positive : Integral → 0 < p
        positive y = omega (arith, is.below y)

        no_integral : Integral
        no_integral = record { family = 0; indices = [] }

    pub new_spanned : (rows : List Row) → All (InSpan p rows) below → InSpan p rows old → InSpan p rows new
    new_spanned rows each old_in =
        InSpan-from_function p rows new s.is_row.below
        (spanned_by_difference p (functions rows) below new old s.differ (AllSpanned-from_rows p below rows each) (IsSpanned-from_row p rows old old_in))

  -- ---- all rows

  module _ (input rows : List Row) (given : AreRules p order unit input) (each : AllZip (IsSubstituted p order below) input rows) where
    long : length input ≡ length rows
    long = length_all_zip (IsSubstituted p order below) input rows each

    row_at : (k : ℕ) (d : Row) → k < length input → IsSubstituted p order below (get_or input k d) (get_or rows k d)
    row_at k d h = AllZip-get_or (IsSubstituted p order below) input rows k d d each h

    is_input : (k : ℕ) (d : Row) → k < length input → IsRow p order (get_or input k d)
    is_input k d h = (given.each k d h).is_row

    -- a pivot of the input is of the unit
    of_unit : (k : ℕ) (d : Row) (x : Integral) → k < length input → IsPivot order (get_or input k d) x → unit_of x ≡ unit
    of_unit k d x h pivot =
        let own = (given.each k d h).pivot in
        ap unit_of (sym (greatest_same order (get_or input k d) own.0 x (own.1).is_greatest pivot.is_greatest)) ∙ own.2

    have_pivots : HavePivotsOf order input rows
    have_pivots =
        record {
          len = sym long;
          kept = λ k d x h pivot. pivot_stays (get_or input k d) (get_or rows k d) (is_input k d h) (row_at k d h) x pivot (of_unit k d x h pivot);
        }

    are_rules : AreRules p order unit rows
    are_rules =
        record {
          each = λ k d h.
              let in_k : k < length input = omega (arith, long) in
              let own = (given.each k d in_k).pivot in
              record { is_row = (row_at k d in_k).is_row; pivot = (own.0, have_pivots.kept k d own.0 in_k own.1, own.2) };
          apart = λ i j d x h l differ pivot.
              let in_i : i < length input = omega (arith, long) in
              let in_j : j < length input = omega (arith, long) in
              let own = (given.each i d in_i).pivot in
              let same : own.0 ≡ x = greatest_same order (get_or rows i d) own.0 x (have_pivots.kept i d own.0 in_i own.1).is_greatest pivot.is_greatest in
              let in_unit : unit_of x ≡ unit = ap unit_of (sym same) ∙ own.2 in
              stays_in_unit (get_or input j d) (get_or rows j d) (is_input j d in_j) (row_at j d in_j) x in_unit
              ∙ given.apart i j d x in_i in_j differ (subst (IsPivot order (get_or input i d)) same own.1);
        }

    same_span : SameSpan p (input ++ below) (rows ++ below)
    same_span =
        let is_below : All (IsRow p order) below = λ k d h. (outside.each k d h).is_row in
        let first : All (InSpan p (input ++ below)) below = members_spanned p order below (input ++ below) is_below (λ r m. Contains-append_right input below r m) in
        let second : All (InSpan p (rows ++ below)) below = members_spanned p order below (rows ++ below) is_below (λ r m. Contains-append_right rows below r m) in
        record {
          forth = All-append (InSpan p (rows ++ below)) input below
              (λ k d h.
              let in_k : k < length rows = omega (arith, long) in
              let new : Row = get_or rows k d in
              let new_in = InSpan-member p (rows ++ below) new ((row_at k d h).is_row).below (Contains-append_left rows below new (Contains-get_or rows k d in_k)) in
              old_spanned (get_or input k d) new (is_input k d h) (row_at k d h) (rows ++ below) second new_in)
              second;
          back = All-append (InSpan p (input ++ below)) rows below
              (λ k d h.
              let in_k : k < length input = omega (arith, long) in
              let old : Row = get_or input k d in
              let old_in = InSpan-member p (input ++ below) old (is_input k d in_k).below (Contains-append_left input below old (Contains-get_or input k d in_k)) in
              new_spanned old (get_or rows k d) (is_input k d in_k) (row_at k d in_k) (input ++ below) first old_in)
              first;
        }

    pub IsSubstitution-from_rows : IsSubstitution p order unit input below rows
    IsSubstitution-from_rows =
        record {
          given = given;
          outside = outside;
          rules = are_rules;
          pivots = have_pivots;
          clear = λ k d h. (row_at k d (let in_k : k < length input = omega (arith, long) in in_k)).clear;
          span = same_span;
        }

-- the same of the slices and the order that the lists were handed on by
pub IsSubstitution-from_slices : (p : ℕ) (order own : Order) (unit : Unit) (input below rows first second : List Row) → own ≡ order → first ≡ input → second ≡ below → AreRules p order unit input → AreBelow p order unit below → AllZip (IsSubstituted p own second) first rows → IsSubstitution p order unit input below rows
IsSubstitution-from_slices p order own unit input below rows first second one same_input same_below given outside each =
    IsSubstitution-from_rows p order unit below outside input rows given
    (subst (λ o. AllZip (IsSubstituted p o below) input rows) one
    (subst (λ b. AllZip (IsSubstituted p own b) input rows) same_below (subst (λ i. AllZip (IsSubstituted p own second) i rows) same_input each)))
