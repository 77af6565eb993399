-- Terms that are sorted, added up and kept.
use Rattle.std.proofs.Common.{◌≡◌, ◌≢◌, ℕ, zero, suc, ◌+◌, ◌-◌, ◌*◌, ◌%◌, ◌<◌, ◌≤◌, Bool, true, false, cond, not, List, [], ◌∷◌, ◌++◌, length, take, get_or, refl, sym, ap, subst, ◌∙◌, arith, inl, inr, ◌⊎◌, set, length-append, add_assoc, add-zero, zero-add, length-take-le}
use Rattle.std.specs.Prelude.{All, AllPairs, filter, ◌==◌}
use Rattle.std.specs.List.{AllByRecursion}
use Rattle.std.specs.List.Sorted.{IsPermutation, IsSorted}
use Rattle.std.specs.declared.cmp.Ordering.{Ordering}
use Rattle.std.specs.declared.cmp.Ordering.TheVariants.{Less, Equal, Greater}
use Rattle.std.specs.Ordering.{is_eq, is_lt}
use mathlib.Core.Bool.{true≢false}
use Rattle.std.specs.Cmp.{Equal-is}
use Rattle.std.proofs.lemmas.Cmp.{tied_itself}
use Rattle.std.proofs.Math.Nat.{add-mod-mod, mod-add-mod, mod-eq_of_lt, mod-lt}
use Rattle.std.proofs.Math.Seq.{get_or-append_seam}
use Rattle.std.proofs.lemmas.List.{length-set, take_more, take_all, take_more_set, get_or_default}
use Rattle.std.proofs.lemmas.Bool.Decides.{nat_tests}
use Rattle.std.proofs.lemmas.List.Elements.{All-take, All-push, All-filter, All-from_recursion}
use Rattle.std.proofs.lemmas.List.Kept.{AllPairs-filter}
use Rattle.std.proofs.lemmas.List.Sorted.{sum_by-IsPermutation}
use Rattle.integral_index.specs.declared.Order.{Order}
use Rattle.integral_index.specs.Integral.{Integral}
use Rattle.integral_index.specs.Order.{compare}
use Rattle.integral_index.proofs.Orders.{compare-total, compare-IsAntisymmetric}
use Rattle.sparse_row.specs.declared.Term.{Term}
use Rattle.sparse_row.specs.Row.{Row, coefficient, IsRow}
use Rattle.sparse_row.specs.Terms.{AllBelow, IsAbove, IsTermList, coefficient_at, total_at}
use Rattle.sparse_row.proofs.TermLists.{AllOver, AllOver-front, Descends, Descends-from_pairs, Descends-front, Descends-push, Greater-trans, by_integrals, coefficient_at-other, coefficient_at-same, each-append, each-weaker, pairs_from_Descends, total_at-append, total_at-cons, total_at-one}
use Rattle.ibp_generator.specs.Collecting.{IsAdded, IsLastRaised, IsNoLess, SameTotals, downwards}

-- ---- the last term of a list

-- a list is what stands before its last element, and that
split_last : (old : List Term) (d : Term) → 0 < length old → old ≡ take (length old - 1) old ++ get_or old (length old - 1) d ∷ []
split_last old d some =
    let place : length old - 1 < length old = omega arith in
    let whole : length old ≤ length old - 1 + 1 = omega arith in
    sym (take_all (length old - 1 + 1) old whole) ∙ take_more old (length old - 1) d place

-- and so is the list with another last element
split_set : (old : List Term) (y : Term) → 0 < length old → set old (length old - 1) y ≡ take (length old - 1) old ++ y ∷ []
split_set old y some =
    let place : length old - 1 < length old = omega arith in
    let whole : length (set old (length old - 1) y) ≤ length old - 1 + 1 = omega (arith, length-set old (length old - 1) y) in
    sym (take_all (length old - 1 + 1) (set old (length old - 1) y) whole) ∙ take_more_set old (length old - 1) y place

last_of : (front : List Term) (y d : Term) → get_or (front ++ y ∷ []) (length (front ++ y ∷ []) - 1) d ≡ y
last_of front y d =
    let end : length (front ++ y ∷ []) - 1 ≡ length front = omega (arith, length-append front (y ∷ [])) in
    ap (λ n. get_or (front ++ y ∷ []) n d) end ∙ get_or-append_seam front y [] d

some_of : (front : List Term) (y : Term) → 0 < length (front ++ y ∷ [])
some_of front y = omega (arith, length-append front (y ∷ []))

-- ---- a term is added to sorted ones

module _ (p : ℕ) (order : Order) (positive : 0 < p) where
  -- totals with one more term, of the integral of the last
  raised_total : (front : List Term) (l t : Term) (x : Integral) → l.integral ≡ t.integral →
      total_at x (front ++ record { integral = l.integral; coefficient = (l.coefficient + t.coefficient) % p } ∷ []) % p ≡ (total_at x (front ++ l ∷ []) + coefficient_at x t) % p
  raised_total front l t x same =
      let y : Term = record { integral = l.integral; coefficient = (l.coefficient + t.coefficient) % p } in
      let n = total_at x front in
      let with_last : (u : Term) → total_at x (front ++ u ∷ []) ≡ n + coefficient_at x u = λ u. total_at-append x front (u ∷ []) ∙ ap (λ m. n + m) (total_at-one x u) in
      ap (λ m. m % p) (with_last y)
      ∙ by_integrals x l.integral
      (λ here.
      ap (λ m. (n + m) % p) (coefficient_at-same x y here)
      ∙ add-mod-mod n (l.coefficient + t.coefficient) p
      ∙ ap (λ m. m % p) (sym (add_assoc n l.coefficient t.coefficient))
      ∙ (λ i. (n + sym (coefficient_at-same x l here) i + sym (coefficient_at-same x t (here ∙ same)) i) % p))
      (λ other.
      ap (λ m. (n + m) % p) (coefficient_at-other x y other ∙ sym (coefficient_at-other x l other))
      ∙ ap (λ m. m % p) (sym (add-zero (n + coefficient_at x l)))
      ∙ ap (λ m. (n + coefficient_at x l + m) % p) (sym (coefficient_at-other x t (λ e. other (e ∙ sym same)))))
      ∙ ap (λ m. (m + coefficient_at x t) % p) (sym (with_last l))

  raised_parts : (front : List Term) (l t : Term) → l.integral ≡ t.integral → Descends order (front ++ l ∷ []) → All (λ (u : Term). u.coefficient < p) front →
      IsAdded p order (front ++ l ∷ []) t (front ++ record { integral = l.integral; coefficient = (l.coefficient + t.coefficient) % p } ∷ [])
  raised_parts front l t same descends below =
      let y : Term = record { integral = l.integral; coefficient = (l.coefficient + t.coefficient) % p } in
      record {
        descend = pairs_from_Descends order (front ++ y ∷ []) (Descends-push order front y (Descends-front order front (l ∷ []) descends) (AllOver-front order front l [] descends));
        below = All-push (λ (u : Term). u.coefficient < p) front y below (mod-lt (l.coefficient + t.coefficient) positive);
        totals = λ x. raised_total front l t x same;
        some = some_of front y;
        last = λ d. ap (λ (u : Term). u.integral) (last_of front y d) ∙ same;
      }

  pub IsAdded-raised : (old new : List Term) (t : Term) → 0 < length old → AllPairs (IsAbove order) old → AllBelow p old → (get_or old (length old - 1) t).integral ≡ t.integral → IsLastRaised p old t.coefficient new → IsAdded p order old t new
  IsAdded-raised old new t some descend below same raised =
      let front = take (length old - 1) old in
      let l = get_or old (length old - 1) t in
      let y : Term = record { integral = l.integral; coefficient = (l.coefficient + t.coefficient) % p } in
      let before : old ≡ front ++ l ∷ [] = split_last old t some in
      let after : new ≡ front ++ y ∷ [] = raised t ∙ split_set old y some in
      let added : IsAdded p order (front ++ l ∷ []) t (front ++ y ∷ []) =
      raised_parts front l t same (subst (Descends order) before (Descends-from_pairs order old descend)) (All-take (λ (u : Term). u.coefficient < p) (length old - 1) old below) in
      subst (λ (ts : List Term). IsAdded p order old t ts) (sym after) (subst (λ (ts : List Term). IsAdded p order ts t (front ++ y ∷ [])) (sym before) added)

  -- the term comes after each that was kept
  above_of : (o : Ordering) → o ≢ Less → o ≢ Equal → o ≡ Greater
  above_of Less a b = absurd (a refl)
  above_of Equal a b = absurd (b refl)
  above_of Greater a b = refl

  all_over : (front : List Term) (l t : Term) → Descends order (front ++ l ∷ []) → compare order l.integral t.integral ≡ Greater → AllOver order t.integral (front ++ l ∷ [])
  all_over front l t descends above =
      each-append (λ (u : Term). compare order u.integral t.integral ≡ Greater) front (l ∷ [])
      (each-weaker (λ u h. Greater-trans order u.integral l.integral t.integral h above) front (AllOver-front order front l [] descends))
      (above, tt)

  over_all : (old : List Term) (t : Term) → Descends order old → IsNoLess order old t → (0 < length old → (get_or old (length old - 1) t).integral ≢ t.integral) → AllOver order t.integral old
  over_all [] t descends no_less differs = tt
  over_all (u ∷ us) t descends no_less differs =
      let old = u ∷ us in
      let some : 0 < length old = omega arith in
      let l = get_or old (length old - 1) t in
      let before : old ≡ take (length old - 1) old ++ l ∷ [] = split_last old t some in
      let above : compare order l.integral t.integral ≡ Greater =
      above_of (compare order l.integral t.integral) (no_less t some) (λ e. differs some (compare-IsAntisymmetric order l.integral t.integral e)) in
      subst (λ (ts : List Term). AllOver order t.integral ts) (sym before) (all_over (take (length old - 1) old) l t (subst (Descends order) before descends) above)

  pub IsAdded-pushed : (old new : List Term) (t : Term) → AllPairs (IsAbove order) old → AllBelow p old → t.coefficient < p → IsNoLess order old t → (0 < length old → (get_or old (length old - 1) t).integral ≢ t.integral) → new ≡ old ++ t ∷ [] → IsAdded p order old t new
  IsAdded-pushed old new t descend below residue no_less differs pushed =
      let descends = Descends-from_pairs order old descend in
      let added : IsAdded p order old t (old ++ t ∷ []) = record {
        descend = pairs_from_Descends order (old ++ t ∷ []) (Descends-push order old t descends (over_all old t descends no_less differs));
        below = All-push (λ (u : Term). u.coefficient < p) old t below residue;
        totals = λ x. ap (λ m. m % p) (total_at-append x old (t ∷ []) ∙ ap (λ m. total_at x old + m) (total_at-one x t));
        some = some_of old t;
        last = λ d. ap (λ (u : Term). u.integral) (last_of old t d);
      } in
      subst (λ (ts : List Term). IsAdded p order old t ts) (sym pushed) added

-- what was kept of the first i terms of a sorted list
pub record Adding (p : ℕ) (order : Order) (sorted kept : List Term) (i : ℕ) : Type 0 where
  pub descend : AllPairs (IsAbove order) kept
  pub below : AllBelow p kept
  pub totals : SameTotals p kept (take i sorted)
  pub none : i ≡ 0 → length kept ≡ 0
  pub last : (d : Term) → 0 < i → (get_or kept (length kept - 1) d).integral ≡ (get_or sorted (i - 1) d).integral

-- ---- the loop over sorted terms

module _ (p : ℕ) (order : Order) where
  pub Adding-none : (sorted : List Term) → Adding p order sorted [] 0
  Adding-none sorted = record {
    descend = λ i j d before within. absurd (omega (arith, within));
    below = λ k d within. absurd (omega (arith, within));
    totals = λ x. refl;
    none = λ _. refl;
    last = λ d some. absurd (omega (arith, some));
  }

  first_or_later : (i : ℕ) → (i ≡ 0) ⊎ (0 < i)
  first_or_later zero = inl refl
  first_or_later (suc i) = inr (omega arith)

  module _ (sorted kept : List Term) (i : ℕ) (t : Term) (within : i < length sorted) (is : (d : Term) → get_or sorted i d ≡ t) (was : Adding p order sorted kept i) where
    -- the terms are sorted, so that this one isn't of a greater integral than the one before it
    pub Adding-no_less : IsSorted (downwards order) sorted → IsNoLess order kept t
    Adding-no_less rise d some less =
        elim (first_or_later i) [
          | inl first ↦ omega (arith, was.none first, some)
          | inr later ↦
              let next : i - 1 + 1 ≡ i = omega arith in
              let inside : i - 1 + 1 < length sorted = omega arith in
              let start : 0 ≤ i - 1 = omega arith in
              let here : get_or sorted (i - 1 + 1) d ≡ t = ap (λ k. get_or sorted k d) next ∙ is d in
              let before : (get_or kept (length kept - 1) d).integral ≡ (get_or sorted (i - 1) d).integral = was.last d later in
              let lower : compare order (get_or sorted (i - 1) d).integral (get_or sorted (i - 1 + 1) d).integral ≡ Less =
              (λ j. compare order (sym before j) (here j).integral) ∙ less in
              absurd (true≢false (sym (ap is_lt lower) ∙ rise (i - 1) d start inside))
        ]

    pub Adding-more : (new : List Term) → IsAdded p order kept t new → Adding p order sorted new (i + 1)
    Adding-more new added = record {
      descend = added.descend;
      below = added.below;
      totals = λ x.
          added.totals x
          ∙ sym (mod-add-mod (total_at x kept) p (coefficient_at x t))
          ∙ ap (λ m. (m + coefficient_at x t) % p) (was.totals x)
          ∙ mod-add-mod (total_at x (take i sorted)) p (coefficient_at x t)
          ∙ ap (λ m. m % p) (ap (λ m. total_at x (take i sorted) + m) (sym (total_at-one x t)) ∙ sym (total_at-append x (take i sorted) (t ∷ []))
          ∙ ap (total_at x) (ap (λ (u : Term). take i sorted ++ u ∷ []) (sym (is t)) ∙ sym (take_more sorted i t within)));
      none = λ e. absurd (omega (arith, e));
      last = λ d some. added.last d ∙ (let same : i + 1 - 1 ≡ i = omega arith in sym (ap (λ (u : Term). u.integral) (ap (λ k. get_or sorted k d) same ∙ is d)));
    }

-- what the test for the last term tells
module _ (order : Order) (old : List Term) (last t : Term) (r : Bool) (o : Ordering) (some : 0 < length old) (is : last ≡ get_or old (length old - 1) last) (compared : o ≡ compare order last.integral t.integral) (tested : r ≡ is_eq o) where
  at_end : get_or old (length old - 1) t ≡ last
  at_end = get_or_default old (length old - 1) t last (omega arith) ∙ sym is

  pub same_last : r ≡ true → (get_or old (length old - 1) t).integral ≡ t.integral
  same_last here =
      ap (λ (u : Term). u.integral) at_end
      ∙ compare-IsAntisymmetric order last.integral t.integral ((Equal-is (compare order last.integral t.integral)).0 (sym (tested ∙ ap is_eq compared) ∙ here))

  pub other_last : r ≡ false → (get_or old (length old - 1) t).integral ≢ t.integral
  other_last other same =
      true≢false (sym (ap is_eq (ap (λ (x : Integral). compare order x t.integral) (sym (ap (λ (u : Term). u.integral) at_end) ∙ same) ∙ tied_itself (compare-total order) t.integral)) ∙ sym (tested ∙ ap is_eq compared) ∙ other)

-- ---- terms of coefficient 0 are dropped

abbrev pub has_coefficient : Term → Bool
has_coefficient term = not (term.coefficient == 0)

zero_of : (n : ℕ) → not (n == 0) ≡ false → n ≡ 0
zero_of n h = grind (arith, nat_tests)

other_of : (n : ℕ) → not (n == 0) ≡ true → n ≢ 0
other_of n h e = true≢false (sym h ∙ ap (λ m. not (m == 0)) e)

dropped_total : (x : Integral) (ts : List Term) → total_at x (filter has_coefficient ts) ≡ total_at x ts
dropped_total x [] = refl
dropped_total x (t ∷ ts) = by (has_coefficient t) refl (dropped_total x ts)
  where
    by : (b : Bool) → has_coefficient t ≡ b → total_at x (filter has_coefficient ts) ≡ total_at x ts → total_at x (cond b (t ∷ filter has_coefficient ts) (filter has_coefficient ts)) ≡ total_at x (t ∷ ts)
    by true e rest = total_at-cons x t (filter has_coefficient ts) ∙ ap (λ m. coefficient_at x t + m) rest ∙ sym (total_at-cons x t ts)
    by false e rest =
        let none : coefficient_at x t ≡ 0 =
        by_integrals x t.integral (λ here. coefficient_at-same x t here ∙ zero_of t.coefficient e) (λ other. coefficient_at-other x t other) in
        rest ∙ sym (total_at-cons x t ts ∙ ap (λ m. m + total_at x ts) none ∙ zero-add (total_at x ts))

dropped_none : (ts : List Term) → AllByRecursion (λ (t : Term). t.coefficient ≢ 0) (filter has_coefficient ts)
dropped_none [] = tt
dropped_none (t ∷ ts) = by (has_coefficient t) refl (dropped_none ts)
  where
    by : (b : Bool) → has_coefficient t ≡ b → AllByRecursion (λ (u : Term). u.coefficient ≢ 0) (filter has_coefficient ts) → AllByRecursion (λ (u : Term). u.coefficient ≢ 0) (cond b (t ∷ filter has_coefficient ts) (filter has_coefficient ts))
    by true e rest = (other_of t.coefficient e, rest)
    by false e rest = rest

-- what is left of terms that descend is a list of terms as a row keeps it
pub IsTermList-dropped : (order : Order) (ts : List Term) → AllPairs (IsAbove order) ts → IsTermList order (filter has_coefficient ts)
IsTermList-dropped order ts descend = record {
  descend = AllPairs-filter (IsAbove order) has_coefficient ts descend;
  no_zero = All-from_recursion (λ (t : Term). t.coefficient ≢ 0) (filter has_coefficient ts) (dropped_none ts);
}

pub AllBelow-dropped : (p : ℕ) (ts : List Term) → AllBelow p ts → AllBelow p (filter has_coefficient ts)
AllBelow-dropped p ts below = All-filter has_coefficient (λ (t : Term). t.coefficient < p) ts below

-- the coefficients of the row that is made
pub sums_of : (p : ℕ) (order : Order) (terms sorted kept left : List Term) (row : Row) → IsPermutation terms sorted → SameTotals p kept sorted → left ≡ filter has_coefficient kept → IsRow p order row → ((x : Integral) → coefficient row x ≡ total_at x left) → (x : Integral) → coefficient row x ≡ total_at x terms % p
sums_of p order terms sorted kept left row moved totals is rows coefficients x =
    sym (mod-eq_of_lt (rows.below x))
    ∙ ap (λ n. n % p) (coefficients x ∙ ap (total_at x) is ∙ dropped_total x kept)
    ∙ totals x
    ∙ ap (λ n. n % p) (sum_by-IsPermutation (coefficient_at x) terms sorted moved)
