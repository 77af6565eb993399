-- One pass over the terms of a row finds the multiples of the rows below that clear their pivots.
use Rattle.std.proofs.Common.{◌≡◌, ◌≢◌, ℕ, ◌+◌, ◌-◌, ◌*◌, ◌%◌, ◌<◌, List, [], ◌∷◌, ◌++◌, length, get_or, take, All, Contains, refl, sym, ap, subst, ◌∙◌, arith, add-zero, zero-add, add_assoc, length-append}
use Rattle.std.proofs.Math.Nat.{mod-mod, mod_self, mod-add-mod, add-mod-mod, mod-eq_of_lt, add-mod_right, mul-zero, mul-one, zero-mod}
use Rattle.std.proofs.lemmas.List.Elements.{All-contains, All-push}
use Rattle.std.proofs.lemmas.List.Sums.{sum_by_more}
use Rattle.integral_index.specs.declared.Order.{Order}
use Rattle.integral_index.specs.Integral.{Integral}
use Rattle.sparse_row.specs.declared.Term.{Term}
use Rattle.sparse_row.specs.Row.{Row, coefficient, IsRow, IsPivot}
use Rattle.sparse_row.specs.Span.{combination}
use Rattle.sparse_row.specs.Terms.{coefficient_at, total_at}
use Rattle.sparse_row.proofs.Spans.{IsSpanned, IsSpanned-add, IsSpanned-times, combination-nothing}
use Rattle.sparse_row.proofs.RowSpans.{functions}
use Rattle.sparse_row.proofs.RowValues.{greatest_same}
use Rattle.sparse_row.proofs.TermLists.{coefficient_at-same, coefficient_at-other, by_integrals}
use Rattle.sector_forward.specs.Elimination.{AreApart}
use Rattle.sector_forward.specs.Steps.{IsPivotAt}
use Rattle.sector_forward.proofs.StepLemmas.{IsPivotAt-from, opposite_sum}
use Rattle.sector_forward.proofs.Clearing.{rule_spanned}
use Rattle.back_substitute.specs.declared.pivots.PivotPlace.{PivotPlace}
use Rattle.back_substitute.specs.Pivots.{IsPlaced, IsIndex, HasNone}
use Rattle.back_substitute.specs.Steps.{IsTermCleared, IsSubstituted}
use Rattle.back_substitute.specs.Sums.{sum_at, IsSumOf}
use Rattle.back_substitute.proofs.Pairs.{add_same, sum_at-push}

-- ---- residues

-- what adds up to nothing may be left out
without : (p a f c : ℕ) → (c + f) % p ≡ 0 → (a + f % p + c) % p ≡ a % p
without p a f c gone =
    ap (λ u. u % p) (let e : a + f % p + c ≡ a + (c + f % p) = omega arith in e)
    ∙ add_same p a (c + f % p) 0 (add-mod-mod c f p ∙ gone ∙ sym (zero-mod p))
    ∙ ap (λ u. u % p) (add-zero a)

-- a residue that changes nothing is 0
nothing_added : (p a c : ℕ) → a < p → c < p → (a + c) % p ≡ c → a ≡ 0
nothing_added p a c small other same =
    let t : ℕ = p - c in
    let whole : a + c + t ≡ a + p = omega arith in
    let full : c + t ≡ p = omega arith in
    let moved : ((a + c) % p + t) % p ≡ a = mod-add-mod (a + c) p t ∙ ap (λ u. u % p) whole ∙ add-mod_right a p ∙ mod-eq_of_lt small in
    sym moved ∙ ap (λ u. (u + t) % p) same ∙ ap (λ u. u % p) full ∙ mod_self p

-- ---- one term

module _ (p : ℕ) (order : Order) (below : List Row) (index : List PivotPlace) (apart : AreApart order below) (is_index : IsIndex order below index) (term : Term) (parts : List Row) (are : All (IsRow p order) parts) where
  -- a term of no pivot leaves all pivots as they are
  pub term_passed : HasNone term.integral index → IsTermCleared p order below term parts parts
  term_passed none =
      record {
        are_rows = are;
        some = λ h. h;
        cleared = λ k x in_k at_k.
            let member = is_index.listing.whole k x in_k at_k in
            let differ : x ≢ term.integral = λ e. none member.0 (record { pivot = x; place = k }) member.1 (ap (λ entry. entry.pivot) member.2 ∙ e) in
            ap (λ u. (sum_at x parts + u) % p) (coefficient_at-other x term differ) ∙ ap (λ u. u % p) (add-zero (sum_at x parts));
        multiplier = λ _. 0;
        differ = λ y. ap (λ u. u % p) (sym (ap (λ u. sum_at y parts + u) (combination-nothing (functions below) y) ∙ add-zero (sum_at y parts)));
      }

  module _ (rule multiple : Row) (place factor : ℕ) (member : Contains index (record { pivot = term.integral; place = place })) (read : rule ≡ get_or below place rule) (value : factor ≡ (p - term.coefficient) % p) (small : term.coefficient < p) (is : IsRow p order multiple) (is_multiple : (x : Integral) → coefficient multiple x ≡ (factor * coefficient rule x) % p) where
    -- the row at the place that was found has the pivot
    placed : IsPlaced order below (record { pivot = term.integral; place = place })
    placed = All-contains (IsPlaced order below) index (record { pivot = term.integral; place = place }) is_index.listing.each member

    -- at the pivot the multiple takes the term's coefficient away
    cleared_here : (x : Integral) → x ≡ term.integral → (sum_at x parts + coefficient multiple x + coefficient_at x term) % p ≡ sum_at x parts % p
    cleared_here x same =
        let top : IsPivot order rule term.integral = subst (λ r. IsPivot order r term.integral) (sym read) (placed.1 rule) in
        let one : coefficient rule x ≡ 1 = ap (coefficient rule) same ∙ top.one in
        let now : coefficient multiple x ≡ factor % p = is_multiple x ∙ ap (λ u. (factor * u) % p) one ∙ ap (λ u. u % p) (mul-one factor) in
        let gone : (term.coefficient + factor) % p ≡ 0 = ap (λ u. (term.coefficient + u) % p) value ∙ opposite_sum p term.coefficient small in
        ap (λ u. (sum_at x parts + coefficient multiple x + u) % p) (coefficient_at-same x term same)
        ∙ ap (λ u. (sum_at x parts + u + term.coefficient) % p) now ∙ without p (sum_at x parts) factor term.coefficient gone

    -- at another pivot it adds nothing
    nothing_there : (k : ℕ) (x : Integral) → k < length below → IsPivotAt order below k x → x ≢ term.integral → (sum_at x parts + coefficient multiple x + coefficient_at x term) % p ≡ sum_at x parts % p
    nothing_there k x in_k at_k differ =
        let elsewhere : k ≢ place =
        λ e.
        let at_place : IsPivot order (get_or below place rule) x = subst (λ n. IsPivotAt order below n x) e at_k rule in
        differ (sym (greatest_same order (get_or below place rule) term.integral x (placed.1 rule).is_greatest at_place.is_greatest)) in
        let none : coefficient rule x ≡ 0 = ap (λ r. coefficient r x) read ∙ apart k place rule x in_k placed.0 elsewhere (at_k rule) in
        let zero_there : coefficient multiple x ≡ 0 = is_multiple x ∙ ap (λ u. (factor * u) % p) none ∙ ap (λ u. u % p) (mul-zero factor) ∙ zero-mod p in
        ap (λ u. (sum_at x parts + coefficient multiple x + u) % p) (coefficient_at-other x term differ)
        ∙ ap (λ u. (sum_at x parts + u + 0) % p) zero_there ∙ ap (λ u. u % p) (let e : sum_at x parts + 0 + 0 ≡ sum_at x parts = omega arith in e)

    pub term_cleared : IsTermCleared p order below term parts (parts ++ multiple ∷ [])
    term_cleared =
        let s : IsSpanned p (functions below) (λ y. factor * coefficient rule y) =
        IsSpanned-times p (functions below) factor (coefficient rule) (rule_spanned p below place rule placed.0 read) in
        record {
          are_rows = All-push (IsRow p order) parts multiple are is;
          some = λ h. omega (arith, length-append parts (multiple ∷ []));
          cleared = λ k x in_k at_k.
              ap (λ u. (u + coefficient_at x term) % p) (sum_at-push x parts multiple) ∙ by_integrals x term.integral (cleared_here x) (nothing_there k x in_k at_k);
          multiplier = s.multiplier;
          differ = λ y.
              ap (λ u. u % p) (sum_at-push y parts multiple)
              ∙ add_same p (sum_at y parts) (coefficient multiple y) (combination s.multiplier (functions below) y) (ap (λ u. u % p) (is_multiple y) ∙ mod-mod (factor * coefficient rule y) p ∙ s.is y);
        }

-- ---- the pass over the terms

-- in the sum of the parts, the first terms were taken away at the pivots of the rows below
pub record IsPassing (p : ℕ) (order : Order) (below : List Row) (terms : List Term) (place : ℕ) (old : Row) (parts : List Row) : Type 0 where
  pub are_rows : All (IsRow p order) parts
  pub some : 0 < length parts
  pub multiplier : ℕ → ℕ
  pub differ : (y : Integral) → sum_at y parts % p ≡ (coefficient old y + combination multiplier (functions below) y) % p
  pub rest : (k : ℕ) (x : Integral) → k < length below → IsPivotAt order below k x → (sum_at x parts + total_at x (take place terms)) % p ≡ coefficient old x

pub IsPassing-start : (p : ℕ) (order : Order) (below : List Row) (terms : List Term) (old row : Row) → IsRow p order old → row ≡ old → IsPassing p order below terms 0 old ([] ++ row ∷ [])
IsPassing-start p order below terms old row is same =
    let alone : (x : Integral) → sum_at x ([] ++ row ∷ []) ≡ coefficient old x = λ x. sum_at-push x [] row ∙ zero-add (coefficient row x) ∙ ap (λ r. coefficient r x) same in
    record {
      are_rows = All-push (IsRow p order) [] row (λ k d h. absurd (omega arith)) (subst (IsRow p order) (sym same) is);
      some = omega arith;
      multiplier = λ _. 0;
      differ = λ y. ap (λ u. u % p) (alone y ∙ sym (ap (λ u. coefficient old y + u) (combination-nothing (functions below) y) ∙ add-zero (coefficient old y)));
      rest = λ k x h at_k. ap (λ u. u % p) (add-zero (sum_at x ([] ++ row ∷ []))) ∙ ap (λ u. u % p) (alone x) ∙ mod-eq_of_lt (is.below x);
    }

pub IsPassing-step : (p : ℕ) (order : Order) (below : List Row) (terms : List Term) (place : ℕ) (old : Row) (parts more : List Row) (term : Term) → place < length terms → term ≡ get_or terms place term → IsTermCleared p order below term parts more → IsPassing p order below terms place old parts → IsPassing p order below terms (place + 1) old more
IsPassing-step p order below terms place old parts more term within read t b =
    let fs : List (Integral → ℕ) = functions below in
    let g : Integral → ℕ = combination b.multiplier fs in
    let h : Integral → ℕ = combination t.multiplier fs in
    let both : IsSpanned p fs (λ y. g y + h y) = IsSpanned-add p fs g h (record { multiplier = b.multiplier; is = λ _. refl }) (record { multiplier = t.multiplier; is = λ _. refl }) in
    record {
      are_rows = t.are_rows;
      some = t.some b.some;
      multiplier = both.multiplier;
      differ = λ y.
          t.differ y ∙ sym (mod-add-mod (sum_at y parts) p (h y)) ∙ ap (λ u. (u + h y) % p) (b.differ y) ∙ mod-add-mod (coefficient old y + g y) p (h y)
          ∙ ap (λ u. u % p) (add_assoc (coefficient old y) (g y) (h y)) ∙ add_same p (coefficient old y) (g y + h y) (combination both.multiplier fs y) (both.is y);
      rest = λ k x in_k at_k.
          let before : ℕ = total_at x (take place terms) in
          let here : ℕ = coefficient_at x term in
          let next : total_at x (take (place + 1) terms) ≡ before + here =
          sum_by_more (λ t. coefficient_at x t) terms place term within ∙ ap (λ t. before + coefficient_at x t) (sym read) in
          ap (λ u. (sum_at x more + u) % p) next
          ∙ ap (λ u. u % p) (let e : sum_at x more + (before + here) ≡ sum_at x more + here + before = omega arith in e)
          ∙ sym (mod-add-mod (sum_at x more + here) p before) ∙ ap (λ u. (u + before) % p) (t.cleared k x in_k at_k) ∙ mod-add-mod (sum_at x parts) p before ∙ b.rest k x in_k at_k;
    }

pub IsSubstituted-end : (p : ℕ) (order : Order) (below : List Row) (terms : List Term) (place : ℕ) (old row : Row) (parts : List Row) → IsRow p order old → ((x : Integral) → coefficient old x ≡ total_at x terms) → take place terms ≡ terms → IsPassing p order below terms place old parts → IsSumOf p order parts row → IsSubstituted p order below old row
IsSubstituted-end p order below terms place old row parts is totals whole b s =
    record {
      is_row = s.is_row;
      differ = record {
        multiplier = b.multiplier;
        is = λ y. ap (λ u. u % p) (s.sum y) ∙ mod-mod (sum_at y parts) p ∙ b.differ y;
      };
      clear = λ rule x member pivot.
          let k = member.0 in
          let at_k : IsPivotAt order below k x = IsPivotAt-from order below k rule x member.1 (subst (λ r. IsPivot order r x) (sym member.2) pivot) in
          let all : total_at x (take place terms) ≡ coefficient old x = ap (total_at x) whole ∙ sym (totals x) in
          nothing_added p (coefficient row x) (coefficient old x) (s.is_row.below x) (is.below x)
          (ap (λ u. (u + coefficient old x) % p) (s.sum x) ∙ mod-add-mod (sum_at x parts) p (coefficient old x) ∙ ap (λ u. (sum_at x parts + u) % p) (sym all) ∙ b.rest k x member.1 at_k);
    }
