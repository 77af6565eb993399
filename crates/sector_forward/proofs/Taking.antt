-- One more equation is taken into the table.
use Rattle.std.proofs.Common.{◌≡◌, ℕ, ◌+◌, ◌-◌, ◌*◌, ◌%◌, ◌<◌, ◌≤◌, List, [], ◌∷◌, ◌++◌, length, get_or, All, AllPairs, Contains, refl, sym, ap, subst, ◌∙◌, inl, inr, arith, add_assoc, length-append}
use Rattle.std.specs.List.{insert}
use Rattle.std.specs.Ordering.{ordering_reverse}
use Rattle.std.specs.declared.cmp.Ordering.TheVariants.{Less, Greater}
use Rattle.std.proofs.Math.Nat.{mod-mod, mod-add-mod, mul-one, mul_comm, mul_left_comm, mul-add, add-mul-mod_self_right}
use Rattle.std.proofs.lemmas.Nat.{mul-mod_second}
use Rattle.std.proofs.lemmas.Bool.{cases_order}
use Rattle.std.proofs.lemmas.List.Edits.{length-insert, get_or-insert_below, get_or-insert_at, get_or-insert_above}
use Rattle.std.proofs.lemmas.List.Elements.{All-cons, All-push, Contains-get_or, Contains-append_left, Contains-push}
use Rattle.std.proofs.lemmas.List.Sorted.{IsPermutation-insert, All-permutation, Contains-permutation}
use Rattle.field_word.specs.Residues.{IsInverse}
use Rattle.integral_index.specs.declared.Order.{Order}
use Rattle.integral_index.specs.Integral.{Integral}
use Rattle.integral_index.specs.Order.{compare}
use Rattle.integral_index.proofs.Orders.{compare-total}
use Rattle.sparse_row.specs.Row.{Row, coefficient, IsRow, IsEmpty, IsGreatest, IsPivot}
use Rattle.sparse_row.specs.Span.{combination, InSpan, SameSpan}
use Rattle.sparse_row.specs.ReducedList.{Ascend}
use Rattle.sparse_row.proofs.Spans.{IsSpanned, AllSpanned, IsSpanned-same, IsSpanned-zero, IsSpanned-add, IsSpanned-times, IsSpanned-trans}
use Rattle.sparse_row.proofs.RowSpans.{IsBelow, functions, IsSpanned-from_row, InSpan-from_function, AllSpanned-from_rows, InSpan-member, All_in_span-trans, SameSpan-trans}
use Rattle.sector_forward.specs.Differences.{DifferBySpan}
use Rattle.sector_forward.specs.Steps.{HasPivot, IsStairs, IsPivotAt, IsPlaceFor, ShowsNoneWithin, IsForward}
use Rattle.sector_forward.proofs.Members.{Contains-here, Contains-there}
use Rattle.sparse_row.proofs.RowValues.{greatest_same}
use Rattle.sector_forward.proofs.StepLemmas.{IsPivotAt-from}
use Rattle.sector_forward.proofs.Clearing.{differ_from}

-- ---- spans

-- what differs from a spanned row by a spanned sum is spanned
pub spanned_by_difference : (p : ℕ) (fs : List (Integral → ℕ)) (table : List Row) (row other : Row) → DifferBySpan p table row other → AllSpanned p fs (functions table) → IsSpanned p fs (coefficient other) → IsSpanned p fs (coefficient row)
spanned_by_difference p fs table row other differ each s =
    let sum : Integral → ℕ = combination differ.multiplier (functions table) in
    IsSpanned-same p fs (λ y. coefficient other y + sum y) (coefficient row) differ.is
    (IsSpanned-add p fs (coefficient other) sum s (IsSpanned-trans p (functions table) fs sum each (record { multiplier = differ.multiplier; is = λ _. refl })))

-- a multiple that is added is taken back
opposite : (p a b s : ℕ) → 0 < p → b % p ≡ (a + s) % p → a % p ≡ (b + (p - 1) * s) % p
opposite p a b s positive is =
    let whole : s + (p - 1) * s ≡ s * p = ap (λ u. s + u) (mul_comm (p - 1) s) ∙ sym (ap (λ u. u + s * (p - 1)) (mul-one s)) ∙ sym (mul-add s 1 (p - 1)) ∙ ap (λ u. s * u) (let e : 1 + (p - 1) ≡ p = omega arith in e) in
    sym (sym (mod-add-mod b p ((p - 1) * s)) ∙ ap (λ u. (u + (p - 1) * s) % p) is ∙ mod-add-mod (a + s) p ((p - 1) * s) ∙ ap (λ u. u % p) (add_assoc a s ((p - 1) * s) ∙ ap (λ u. a + u) whole) ∙ add-mul-mod_self_right a s p)

pub differ_turned : (p : ℕ) (table : List Row) (row other : Row) → 0 < p → DifferBySpan p table row other → DifferBySpan p table other row
differ_turned p table row other positive differ =
    let sum : Integral → ℕ = combination differ.multiplier (functions table) in
    differ_from p table other row (λ y. (p - 1) * sum y) (IsSpanned-times p (functions table) (p - 1) sum (record { multiplier = differ.multiplier; is = λ _. refl }))
    (λ y. opposite p (coefficient other y) (coefficient row y) (sum y) positive (differ.is y))

-- a row and its multiple by a number with an inverse span the same
pub scaled_spanned : (p inverse : ℕ) (fs : List (Integral → ℕ)) (row scaled : Row) → ((y : Integral) → coefficient scaled y ≡ (coefficient row y * inverse) % p) → IsSpanned p fs (coefficient row) → IsSpanned p fs (coefficient scaled)
scaled_spanned p inverse fs row scaled is s =
    IsSpanned-same p fs (λ y. inverse * coefficient row y) (coefficient scaled) (λ y. ap (λ u. u % p) (is y) ∙ mod-mod _ p ∙ ap (λ u. u % p) (mul_comm (coefficient row y) inverse)) (IsSpanned-times p fs inverse (coefficient row) s)

pub unscaled_spanned : (p inverse c : ℕ) (fs : List (Integral → ℕ)) (row scaled : Row) → IsInverse p c inverse → ((y : Integral) → coefficient scaled y ≡ (coefficient row y * inverse) % p) → IsSpanned p fs (coefficient scaled) → IsSpanned p fs (coefficient row)
unscaled_spanned p inverse c fs row scaled inv is s =
    IsSpanned-same p fs (λ y. c * coefficient scaled y) (coefficient row)
    (λ y.
    sym (ap (λ u. (c * u) % p) (is y) ∙ mul-mod_second c (coefficient row y * inverse) p ∙ ap (λ u. u % p) (mul_left_comm c (coefficient row y) inverse)
    ∙ sym (mul-mod_second (coefficient row y) (c * inverse) p) ∙ ap (λ u. (coefficient row y * u) % p) inv.one ∙ ap (λ u. u % p) (mul-one (coefficient row y))))
    (IsSpanned-times p fs c (coefficient scaled) s)

pub below_of_rows : (p : ℕ) (order : Order) (row : Row) → IsRow p order row → IsBelow p row
below_of_rows p order row is = is.below

-- rows that are all in a longer list are in its span
pub members_spanned : (p : ℕ) (order : Order) (rows others : List Row) → All (IsRow p order) rows → ((row : Row) → Contains rows row → Contains others row) → All (InSpan p others) rows
members_spanned p order rows others is within k d h =
    InSpan-member p others (get_or rows k d) ((is k d h).below) (within (get_or rows k d) (Contains-get_or rows k d h))

-- ---- one equation more

-- an equation that is cleared to nothing is in the span
pub dependent_span : (p : ℕ) (order : Order) (table : List Row) (equation row : Row) → All (IsRow p order) table → IsRow p order equation → DifferBySpan p table equation row → IsEmpty row → SameSpan p (table ++ equation ∷ []) table
dependent_span p order table equation row rows is differ empty =
    let own : All (InSpan p table) table = members_spanned p order table table rows (λ r m. m) in
    let none : IsSpanned p (functions table) (coefficient row) = IsSpanned-same p (functions table) (λ _. 0) (coefficient row) (λ y. ap (λ u. u % p) (empty y)) (IsSpanned-zero p (functions table)) in
    let whole : InSpan p table equation = InSpan-from_function p table equation is.below (spanned_by_difference p (functions table) table equation row differ (AllSpanned-from_rows p table table own) none) in
    record {
      forth = All-push (InSpan p table) table equation own whole;
      back = members_spanned p order table (table ++ equation ∷ []) rows (λ r m. Contains-append_left table (equation ∷ []) r m);
    }

module _ (p : ℕ) (order : Order) (table : List Row) (equation row rule : Row) (inverse c place : ℕ) (positive : 0 < p) (rows : All (IsRow p order) table) (is_equation : IsRow p order equation) (is_row : IsRow p order row) (is_rule : IsRow p order rule) (differ : DifferBySpan p table equation row) (inv : IsInverse p c inverse) (scaled : (y : Integral) → coefficient rule y ≡ (coefficient row y * inverse) % p) where
  pub rule_span : SameSpan p (table ++ equation ∷ []) (insert table place rule)
  rule_span =
      let long : List Row = table ++ equation ∷ [] in
      let new : List Row = insert table place rule in
      let moved = IsPermutation-insert table place rule in
      let kept : All (InSpan p new) table = members_spanned p order table new rows (λ r m. Contains-permutation (rule ∷ table) new r moved (Contains-there rule table r m)) in
      let rule_in : InSpan p new rule = InSpan-member p new rule is_rule.below (Contains-permutation (rule ∷ table) new rule moved (Contains-here rule table)) in
      let row_in : IsSpanned p (functions new) (coefficient row) = unscaled_spanned p inverse c (functions new) row rule inv scaled (IsSpanned-from_row p new rule rule_in) in
      let equation_in : InSpan p new equation = InSpan-from_function p new equation is_equation.below (spanned_by_difference p (functions new) table equation row differ (AllSpanned-from_rows p table new kept) row_in) in
      let long_table : All (InSpan p long) table = members_spanned p order table long rows (λ r m. Contains-append_left table (equation ∷ []) r m) in
      let long_equation : InSpan p long equation = InSpan-member p long equation is_equation.below (Contains-push table equation) in
      let row_back : IsSpanned p (functions long) (coefficient row) = spanned_by_difference p (functions long) table row equation (differ_turned p table equation row positive differ) (AllSpanned-from_rows p table long long_table) (IsSpanned-from_row p long equation long_equation) in
      let rule_back : InSpan p long rule = InSpan-from_function p long rule is_rule.below (scaled_spanned p inverse (functions long) row rule scaled row_back) in
      record {
        forth = All-push (InSpan p new) table equation kept equation_in;
        back = All-permutation (InSpan p long) (rule ∷ table) new moved (All-cons (InSpan p long) rule table rule_back long_table);
      }

-- ---- the stairs with one rule more

pub AllPairs-insert : {X : Type 0} (R : X → X → Type 0) (xs : List X) (place : ℕ) (y : X) → place ≤ length xs → AllPairs R xs → ((k : ℕ) (d : X) → k < place → R (get_or xs k d) y) → ((k : ℕ) (d : X) → place ≤ k → k < length xs → R y (get_or xs k d)) → AllPairs R (insert xs place y)
AllPairs-insert {X} R xs place y within pairs before after i j d l in_j =
    let len = length-insert xs place y within in
    let below : (k : ℕ) → k < place → get_or (insert xs place y) k d ≡ get_or xs k d = λ k h. get_or-insert_below xs place y d k h within in
    let here : get_or (insert xs place y) place d ≡ y = get_or-insert_at xs place y d within in
    let above : (k : ℕ) → place < k → get_or (insert xs place y) k d ≡ get_or xs (k - 1) d =
    λ k h. let e : k ≡ (k - 1) + 1 = omega arith in ap (λ n. get_or (insert xs place y) n d) e ∙ get_or-insert_above xs place y d (k - 1) (omega arith) within in
    let both : (a b : X) → get_or (insert xs place y) i d ≡ a → get_or (insert xs place y) j d ≡ b → R a b → R (get_or (insert xs place y) i d) (get_or (insert xs place y) j d) =
    λ a b e f r. subst (λ u. R u (get_or (insert xs place y) j d)) (sym e) (subst (λ u. R a u) (sym f) r) in
    elim (cases_order j place) [
      | inl same ↦
          both (get_or xs i d) y (below i (omega arith)) (ap (λ n. get_or (insert xs place y) n d) same ∙ here) (before i d (omega arith))
      | inr (inl low) ↦ both (get_or xs i d) (get_or xs j d) (below i (omega arith)) (below j low) (pairs i j d l (omega arith))
      | inr (inr high) ↦
          elim (cases_order i place) [
            | inl same ↦ both y (get_or xs (j - 1) d) (ap (λ n. get_or (insert xs place y) n d) same ∙ here) (above j high) (after (j - 1) d (omega arith) (omega arith))
            | inr (inl low) ↦ both (get_or xs i d) (get_or xs (j - 1) d) (below i low) (above j high) (pairs i (j - 1) d (omega arith) (omega arith))
            | inr (inr up) ↦ both (get_or xs (i - 1) d) (get_or xs (j - 1) d) (above i up) (above j high) (pairs (i - 1) (j - 1) d (omega arith) (omega arith))
          ]
    ]

pub IsStairs-insert : (p : ℕ) (order : Order) (table : List Row) (rule : Row) (x : Integral) (place : ℕ) → IsStairs p order table → IsRow p order rule → IsPivot order rule x → IsPlaceFor order table x place → IsStairs p order (insert table place rule)
IsStairs-insert p order table rule x place stairs is pivot free =
    let moved = IsPermutation-insert table place rule in
    let own : (y : Integral) → IsGreatest order rule y → x ≡ y = λ y g. greatest_same order rule x y pivot.is_greatest g in
    let turned : (y : Integral) → compare order y x ≡ Greater → compare order x y ≡ Less = λ y h. (compare-total order).antisymm x y ∙ ap ordering_reverse h in
    record {
      rows = All-permutation (IsRow p order) (rule ∷ table) (insert table place rule) moved (All-cons (IsRow p order) rule table is stairs.rows);
      pivots = All-permutation (HasPivot order) (rule ∷ table) (insert table place rule) moved (All-cons (HasPivot order) rule table (x, pivot) stairs.pivots);
      ascend = AllPairs-insert (Ascend order) table place rule free.within stairs.ascend
          (λ k d l y z g h.
          let in_k : k < length table = omega (arith, free.within) in
          let w = (stairs.pivots k d in_k).0 in
          let top = (stairs.pivots k d in_k).1 in
          let same_y : w ≡ y = greatest_same order (get_or table k d) w y top.is_greatest g in
          subst (λ u. compare order u z ≡ Less) same_y (subst (λ u. compare order w u ≡ Less) (own z h) (free.less k w l (IsPivotAt-from order table k d w in_k top))))
          (λ k d l in_k y z g h.
          let w = (stairs.pivots k d in_k).0 in
          let top = (stairs.pivots k d in_k).1 in
          let same_z : w ≡ z = greatest_same order (get_or table k d) w z top.is_greatest h in
          subst (λ u. compare order u z ≡ Less) (own y g) (subst (λ u. compare order x u ≡ Less) same_z (turned w (free.greater k w l in_k (IsPivotAt-from order table k d w in_k top)))));
    }

-- the greatest integral of a cleared row is no pivot
pub free_of : (order own : Order) (table : List Row) (row : Row) (x : Integral) → IsGreatest own row x → ShowsNoneWithin order table 0 (length table) row → (k : ℕ) → k < length table → ¬ (IsPivotAt order table k x)
free_of order own table row x g none k in_k pivot = g.shown (none k x (omega arith) in_k pivot)

pub positive_of : (p : ℕ) (order : Order) (row : Row) (x : Integral) → IsRow p order row → 0 < p
positive_of p order row x is = omega (arith, is.below x)

-- ---- the list of the equations that were taken

pub IsForward-start : (p : ℕ) (order : Order) → IsForward p order [] []
IsForward-start p order =
    record {
      stairs = record { rows = λ k d h. absurd (omega arith); pivots = λ k d h. absurd (omega arith); ascend = λ i j d l h. absurd (omega arith) };
      span = record { forth = λ k d h. absurd (omega arith); back = λ k d h. absurd (omega arith) };
      few = omega arith;
    }

-- a list of rows and its span, with one row more
pub SameSpan-push : (p : ℕ) (order : Order) (rows others : List Row) (row : Row) → All (IsRow p order) rows → All (IsRow p order) others → IsRow p order row → SameSpan p rows others → SameSpan p (rows ++ row ∷ []) (others ++ row ∷ [])
SameSpan-push p order rows others row is_rows is_others is same =
    let long : List Row = others ++ row ∷ [] in
    let first : List Row = rows ++ row ∷ [] in
    let others_in : All (InSpan p long) others = members_spanned p order others long is_others (λ r m. Contains-append_left others (row ∷ []) r m) in
    let rows_in : All (InSpan p first) rows = members_spanned p order rows first is_rows (λ r m. Contains-append_left rows (row ∷ []) r m) in
    record {
      forth = All-push (InSpan p long) rows row (All_in_span-trans p rows others long same.forth others_in) (InSpan-member p long row is.below (Contains-push others row));
      back = All-push (InSpan p first) others row (All_in_span-trans p others rows first same.back rows_in) (InSpan-member p first row is.below (Contains-push rows row));
    }

pub IsForward-more : (p : ℕ) (order : Order) (taken table new : List Row) (equation : Row) → All (IsRow p order) taken → IsRow p order equation → IsForward p order taken table → IsStairs p order new → SameSpan p (table ++ equation ∷ []) new → length new ≤ length table + 1 → IsForward p order (taken ++ equation ∷ []) new
IsForward-more p order taken table new equation rows is f stairs span few =
    let len = length-append taken (equation ∷ []) in
    record {
      stairs = stairs;
      span = SameSpan-trans p (taken ++ equation ∷ []) (table ++ equation ∷ []) new (SameSpan-push p order taken table equation rows f.stairs.rows is f.span) span;
      few = omega (arith, f.few);
    }
