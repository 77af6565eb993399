-- What the slow checks compute is what the definitions say.
use Rattle.std.proofs.Common.{◌≡◌, ◌≢◌, ℕ, suc, ◌+◌, ◌*◌, ◌%◌, ◌<◌, ◌≤◌, ◌↔◌, Bool, true, false, cond, IsTrue, eqb, List, [], ◌∷◌, ◌++◌, length, get_or, take, drop, map, All, AllPairs, find, Some, None, slice_index, refl, sym, ap, subst, ◌∙◌, inl, inr, arith}
use Rattle.std.specs.Ordering.{ordering_index}
use Rattle.std.specs.declared.cmp.Ordering.{Ordering}
use Rattle.std.specs.declared.cmp.Ordering.TheVariants.{Less, Equal, Greater}
use Rattle.std.proofs.Math.Nat.{mod-add-mod, zero-mod}
use Rattle.std.proofs.lemmas.Bool.{cases_order, cases_lt, false≢true, eqb-true, eq-eqb}
use Rattle.std.proofs.lemmas.Cmp.{tied_itself}
use Rattle.std.proofs.lemmas.List.{length-map, length-take-le, get_or-map, take_more, take-append-drop}
use Rattle.std.proofs.Math.Seq.{take-length, drop-cons}
use Rattle.std.proofs.lemmas.List.Elements.{Contains-get_or, All-more}
use Rattle.integral_index.specs.declared.Order.{Order}
use Rattle.integral_index.specs.Integral.{Integral, sector_of}
use Rattle.integral_index.specs.Order.{compare}
use Rattle.integral_index.specs.ZeroSectors.{is_zero_sector}
use Rattle.reduction_core.proofs.TableRows.{form_of_rule}
use Rattle.integral_index.proofs.Orders.{compare-total, compare-IsAntisymmetric}
use Rattle.sparse_row.specs.Row.{Row, coefficient, Shows, IsRow, IsEmpty, IsGreatest, IsPivot}
use Rattle.sparse_row.specs.Span.{combination}
use Rattle.sparse_row.specs.ReducedList.{IsEchelon, IsReduced}
use Rattle.sparse_row.proofs.Spans.{combination-push}
use Rattle.sparse_row.proofs.RowSpans.{no_row}
use Rattle.reduction_core.specs.Checks.{IsSum, AreSums, IsShownReduced, StandsBelow, StandsAt}
use Rattle.reduction_core.specs.NormalForm.{is_pivot, rule_for, normal_form, solved, unit_row}
use Rattle.sector_forward.specs.Steps.{HasPivot}
use Rattle.sparse_row.proofs.RowValues.{same_row}
use Rattle.reduction_core.proofs.Pivots.{IsPivot-from_test, test-from_IsPivot}
use Rattle.sparse_row.proofs.RowValues.{greatest_same}
use Rattle.sector_forward.proofs.StepLemmas.{same_at}
use Rattle.sector_forward.proofs.Keys.{decided}
use Rattle.sector_forward.proofs.Clearing.{none_above}

-- ---- pivots

pub pivot_tested : (order own : Order) (row : Row) (greatest : Integral) (n : ℕ) → own ≡ order → IsGreatest own row greatest → n ≡ coefficient row greatest → IsTrue (eqb n 1) ↔ HasPivot order row
pivot_tested order own row greatest n same g value =
    let is_greatest : IsGreatest order row greatest = subst (λ o. IsGreatest o row greatest) same g in (
      λ test. (greatest, record { is_greatest = is_greatest; one = sym value ∙ eqb-true n 1 test }),
      λ (y, pivot). eq-eqb n 1 (value ∙ ap (coefficient row) (greatest_same order row greatest y is_greatest pivot.is_greatest) ∙ pivot.one),
    )

-- ---- an echelon form, by pairs

pub stands_tested : (order own other_own : Order) (row other : Row) (x y : Integral) (n : ℕ) → own ≡ order → other_own ≡ order → IsGreatest own row x → IsGreatest other_own other y → HasPivot order row → compare order x y ≡ Less → n ≡ coefficient other x → IsTrue (eqb n 0) ↔ StandsBelow order row other
stands_tested order own other_own row other x y n same other_same g h pivot less value =
    let row_greatest : IsGreatest order row x = subst (λ o. IsGreatest o row x) same g in
    let other_greatest : IsGreatest order other y = subst (λ o. IsGreatest o other y) other_same h in
    let one : (u : Integral) → IsGreatest order row u → x ≡ u = λ u k. greatest_same order row x u row_greatest k in
    let two : (u : Integral) → IsGreatest order other u → y ≡ u = λ u k. greatest_same order other y u other_greatest k in (
      λ test.
          record {
            less = λ u v s t. subst (λ w. compare order w v ≡ Less) (one u s) (subst (λ w. compare order x w ≡ Less) (two v t) less);
            clear = λ u top. ap (coefficient other) (sym (one u top.is_greatest)) ∙ sym value ∙ eqb-true n 0 test;
          },
      λ stands. eq-eqb n 0 (value ∙ ap (coefficient other) (one pivot.0 pivot.1.is_greatest) ∙ stands.clear pivot.0 pivot.1),
    )

pub stands_not : (order own other_own : Order) (row other : Row) (x y : Integral) → own ≡ order → other_own ≡ order → IsGreatest own row x → IsGreatest other_own other y → compare order x y ≢ Less → ¬ (StandsBelow order row other)
stands_not order own other_own row other x y same other_same g h not_less stands =
    not_less (stands.less x y (subst (λ o. IsGreatest o row x) same g) (subst (λ o. IsGreatest o other y) other_same h))

-- an echelon form is rows with pivots, each below all that follow
pub echelon_from_pairs : (p : ℕ) (order : Order) (table : List Row) → All (IsRow p order) table → All (HasPivot order) table → AllPairs (StandsBelow order) table → IsEchelon p order table
echelon_from_pairs p order table rows pivots pairs =
    record {
      rows = rows;
      pivots = pivots;
      ascend = λ i j d l h. (pairs i j d l h).less;
      apart = λ row other x in_row in_other pivot shows.
          let i = in_row.0 in
          let j = in_other.0 in
          let row_i : IsPivot order (get_or table i no_row) x = subst (λ r. IsPivot order r x) (sym (same_at table i no_row row in_row.1 ∙ in_row.2)) pivot in
          let other_j : get_or table j no_row ≡ other = same_at table j no_row other in_other.1 ∙ in_other.2 in
          let shows_j : Shows (get_or table j no_row) x = λ e. shows (ap (λ r. coefficient r x) (sym other_j) ∙ e) in
          elim (cases_order i j) [
            | inl same ↦ subst (λ r. IsPivot order r x) other_j (subst (λ n. IsPivot order (get_or table n no_row) x) same row_i)
            | inr (inl before) ↦ absurd (shows_j ((pairs i j no_row before in_other.1).clear x row_i))
            | inr (inr after) ↦
                let z = (pivots j no_row in_other.1).0 in
                let top = (pivots j no_row in_other.1).1 in
                let less : compare order z x ≡ Less = (pairs j i no_row after in_row.1).less z x top.is_greatest row_i.is_greatest in
                absurd (shows_j (none_above order (get_or table j no_row) z x top less))
          ];
    }

pub pairs_from_echelon : (p : ℕ) (order : Order) (table : List Row) → IsEchelon p order table → AllPairs (StandsBelow order) table
pairs_from_echelon p order table e i j d l in_j =
    let in_i : i < length table = omega arith in
    record {
      less = e.ascend i j d l in_j;
      clear = λ x pivot.
          elim (decided (coefficient (get_or table j d) x)) [
            | inl none ↦ none
            | inr some ↦
                let there = e.apart (get_or table i d) (get_or table j d) x (Contains-get_or table i d in_i) (Contains-get_or table j d in_j) pivot some in
                let less : compare order x x ≡ Less = e.ascend i j d l in_j x x pivot.is_greatest there.is_greatest in
                let tied = tied_itself (compare-total order) x in
                absurd (cc)
          ];
    }

-- the rows before this place are each below all that follow
abbrev pub PairsBefore : Order → List Row → ℕ → Type 0
PairsBefore order table n = (i j : ℕ) (d : Row) → i < n → i < j → j < length table → StandsBelow order (get_or table i d) (get_or table j d)

pub pairs_more : (order : Order) (table : List Row) (n : ℕ) → PairsBefore order table n → StandsAt order table n → PairsBefore order table (n + 1)
pairs_more order table n before stands i j d h l in_j =
    elim (cases_lt i n) [
      | inl old ↦ before i j d old l in_j
      | inr here ↦
          let same : n ≡ i = omega arith in
          subst (λ k. StandsBelow order (get_or table k d) (get_or table j d)) same (stands j d (omega arith) in_j)
    ]

pub pairs_all : (order : Order) (table : List Row) (n : ℕ) → length table ≤ n → PairsBefore order table n → AllPairs (StandsBelow order) table
pairs_all order table n low before i j d l in_j = before i j d (omega arith) l in_j

pub stands_from_pairs : (order : Order) (table : List Row) (n : ℕ) → AllPairs (StandsBelow order) table → StandsAt order table n
stands_from_pairs order table n pairs k d l h = pairs n k d l h

-- the rows from the place on, up to a further one, stand above it
abbrev pub StandsUpTo : Order → List Row → ℕ → ℕ → Type 0
StandsUpTo order table place high = (k : ℕ) (d : Row) → place < k → k < high → StandsBelow order (get_or table place d) (get_or table k d)

pub stands_more : (order : Order) (table : List Row) (place n : ℕ) (row other : Row) → place < length table → n < length table → row ≡ get_or table place row → other ≡ get_or table n other → StandsUpTo order table place n → StandsBelow order row other → StandsUpTo order table place (n + 1)
stands_more order table place n row other in_place in_n read_row read_other before stands k d l h =
    elim (cases_lt k n) [
      | inl old ↦ before k d l old
      | inr here ↦
          let same : n ≡ k = omega arith in
          subst (λ j. StandsBelow order (get_or table place d) (get_or table j d)) same
          (subst (λ r. StandsBelow order r (get_or table n d)) (read_row ∙ same_at table place row d in_place) (subst (λ r. StandsBelow order row r) (read_other ∙ same_at table n other d in_n) stands))
    ]

pub stands_fail : (order : Order) (table : List Row) (place n : ℕ) (row other : Row) → place < length table → n < length table → place < n → row ≡ get_or table place row → other ≡ get_or table n other → ¬ (StandsBelow order row other) → ¬ (StandsAt order table place)
stands_fail order table place n row other in_place in_n l read_row read_other fails stands =
    fails (subst (λ r. StandsBelow order r other) (sym (read_row ∙ same_at table place row other in_place)) (subst (λ r. StandsBelow order (get_or table place other) r) (sym read_other) (stands n other l in_n)))

-- ---- sums of multiples

-- the sum of the multiples of the first rows
pub record IsSumSoFar (p : ℕ) (order : Order) (rows : List Row) (multipliers : List ℕ) (n : ℕ) (sum : Row) : Type 0 where
  pub row_is : IsRow p order sum
  pub is : (x : Integral) → coefficient sum x ≡ combination (λ k. slice_index multipliers k) (take n (map coefficient rows)) x % p

pub IsSumSoFar-start : (p : ℕ) (order : Order) (rows : List Row) (multipliers : List ℕ) (sum : Row) → IsEmpty sum → IsRow p order sum → IsSumSoFar p order rows multipliers 0 sum
IsSumSoFar-start p order rows multipliers sum empty is = record { row_is = is; is = λ x. empty x ∙ sym (zero-mod p) }

pub IsSumSoFar-more : (p : ℕ) (order : Order) (rows : List Row) (multipliers : List ℕ) (n : ℕ) (sum new row : Row) (factor : ℕ) → n < length rows → row ≡ get_or rows n row → factor ≡ slice_index multipliers n → IsSumSoFar p order rows multipliers n sum → IsRow p order new → ((x : Integral) → coefficient new x ≡ (coefficient sum x + factor * coefficient row x) % p) → IsSumSoFar p order rows multipliers (n + 1) new
IsSumSoFar-more p order rows multipliers n sum new row factor in_n read value s is added =
    let fs : List (Integral → ℕ) = map coefficient rows in
    let c : ℕ → ℕ = λ k. slice_index multipliers k in
    let within : n < length fs = omega (arith, length-map rows coefficient) in
    let front : length (take n fs) ≡ n = length-take-le n fs (omega arith) in
    let last : get_or fs n (coefficient row) ≡ coefficient row = get_or-map coefficient rows n row (coefficient row) in_n ∙ ap coefficient (sym read) in
    let grown : take (n + 1) fs ≡ take n fs ++ coefficient row ∷ [] = take_more fs n (coefficient row) within ∙ ap (λ f. take n fs ++ f ∷ []) last in
    record {
      row_is = is;
      is = λ x.
          added x ∙ ap (λ u. (u + factor * coefficient row x) % p) (s.is x) ∙ mod-add-mod (combination c (take n fs) x) p (factor * coefficient row x)
          ∙ ap (λ u. (combination c (take n fs) x + u * coefficient row x) % p) (value ∙ ap c (sym front))
          ∙ ap (λ u. u % p) (sym (combination-push c (take n fs) (coefficient row) x) ∙ ap (λ gs. combination c gs x) (sym grown));
    }

pub sum_tested : (p : ℕ) (order : Order) (rows : List Row) (multipliers : List ℕ) (n : ℕ) (sum row : Row) (answer : Bool) → length rows ≤ n → n ≤ length rows → IsSumSoFar p order rows multipliers n sum → IsRow p order row → (IsTrue answer ↔ (sum ≡ row)) → IsTrue answer ↔ IsSum p rows multipliers row
sum_tested p order rows multipliers n sum row answer low high s is equal =
    let fs : List (Integral → ℕ) = map coefficient rows in
    let whole : take n fs ≡ fs = ap (λ k. take k fs) (let e : n ≡ length fs = omega (arith, length-map rows coefficient) in e) ∙ take-length fs in
    let c : ℕ → ℕ = λ k. slice_index multipliers k in
    let total : (x : Integral) → coefficient sum x ≡ combination c fs x % p = λ x. s.is x ∙ ap (λ gs. combination c gs x % p) whole in (
      λ test x. ap (λ r. coefficient r x) (sym (equal.0 test)) ∙ total x,
      λ is_sum. equal.1 (same_row p order sum row s.row_is is (λ x. total x ∙ sym (is_sum x))),
    )

-- ---- the reduced list

pub reduced_from_shown : (p : ℕ) (order : Order) (equations table : List Row) (down up : List (List ℕ)) → IsShownReduced p order equations table down up → IsReduced p order equations table
reduced_from_shown p order equations table down up s =
    record {
      echelon = s.echelon;
      spanned = λ k d h. record { multiplier = λ j. slice_index (get_or down k []) j; is = s.spanned k d h };
      spans = λ k d h. record { multiplier = λ j. slice_index (get_or up k []) j; is = s.spans k d h };
    }

-- ---- tests in loops

pub untrue : (b : Bool) (P : Type 0) → b ≡ false → (IsTrue b ↔ P) → ¬ P
untrue b P e says holds = false≢true (sym e ∙ says.1 holds)

pub never : (P : Type 0) → ¬ P → IsTrue false ↔ P
never P not_P = (λ e. absurd (false≢true e), λ holds. absurd (not_P holds))

pub always : (P : Type 0) → P → IsTrue true ↔ P
always P holds = (λ _. holds, λ _. refl)

-- what fails at one place fails of all
pub not_all : {X : Type 0} (P : X → Type 0) (xs : List X) (n : ℕ) (x : X) → n < length xs → x ≡ get_or xs n x → ¬ (P x) → ¬ (All P xs)
not_all P xs n x h read fails all = fails (subst P (sym read) (all n x h))

pub all_of_front : {X : Type 0} (P : X → Type 0) (xs : List X) (n : ℕ) → length xs ≤ n → n ≤ length xs → All P (take n xs) → All P xs
all_of_front P xs n low high all = subst (All P) (ap (λ k. take k xs) (let e : n ≡ length xs = omega arith in e) ∙ take-length xs) all

pub all_of_front_more : {X : Type 0} (P : X → Type 0) (xs : List X) (n : ℕ) (x : X) → n < length xs → x ≡ get_or xs n x → All P (take n xs) → P x → All P (take (n + 1) xs)
all_of_front_more P xs n x h read all holds = All-more P xs n x h all (subst P read holds)

-- ---- the pivot that is asked for

index_of_equal : (r : Ordering) → eqb (ordering_index r) 1 ≡ true → r ≡ Equal
index_of_equal Less h = absurd (false≢true h)
index_of_equal Equal h = refl
index_of_equal Greater h = absurd (false≢true h)

pub pivot_asked : (order own : Order) (row : Row) (greatest x : Integral) (r : Ordering) (n : ℕ) → own ≡ order → IsGreatest own row greatest → r ≡ compare order greatest x → eqb (ordering_index r) 1 ≡ true → n ≡ coefficient row x → IsTrue (eqb n 1) ↔ IsPivot order row x
pivot_asked order own row greatest x r n same g is equal value =
    let one : greatest ≡ x = compare-IsAntisymmetric order greatest x (sym is ∙ index_of_equal r equal) in
    let is_greatest : IsGreatest order row x = subst (λ o. IsGreatest o row x) same (subst (IsGreatest own row) one g) in
    (λ test. record { is_greatest = is_greatest; one = sym value ∙ eqb-true n 1 test }, λ pivot. eq-eqb n 1 (value ∙ pivot.one))

pub pivot_other : (order own : Order) (row : Row) (greatest x : Integral) (r : Ordering) → own ≡ order → IsGreatest own row greatest → r ≡ compare order greatest x → eqb (ordering_index r) 1 ≡ false → ¬ (IsPivot order row x)
pivot_other order own row greatest x r same g is unequal pivot =
    let one : greatest ≡ x = greatest_same order row greatest x (subst (λ o. IsGreatest o row greatest) same g) pivot.is_greatest in
    let tied : compare order greatest x ≡ Equal = ap (compare order greatest) (sym one) ∙ tied_itself (compare-total order) greatest in
    false≢true (sym unequal ∙ ap (λ o. eqb (ordering_index o) 1) (is ∙ tied))

-- ---- the scan for a rule

find_after : {X : Type 0} (test : X → Bool) (xs ys : List X) → find test xs ≡ None → find test (xs ++ ys) ≡ find test ys
find_after test [] ys none = refl
find_after test (x ∷ xs) ys none =
    elim (test x) as (λ b. cond b (Some x) (find test xs) ≡ None → cond b (Some x) (find test (xs ++ ys)) ≡ find test ys) [
      | true ↦ λ e. absurd (cc)
      | false ↦ λ e. find_after test xs ys e
    ] none

pub scan_more : (p : ℕ) (order : Order) (rows : List Row) (x : Integral) (n : ℕ) (row : Row) → n < length rows → row ≡ get_or rows n row → find (λ r. is_pivot order r x) (take n rows) ≡ None → ¬ (IsPivot order row x) → find (λ r. is_pivot order r x) (take (n + 1) rows) ≡ None
scan_more p order rows x n row h read none other =
    let test : is_pivot order row x ≡ false = elim (is_pivot order row x) as (λ b. is_pivot order row x ≡ b → b ≡ false) [ true ↦ λ e. absurd (other (IsPivot-from_test order row x e)) | false ↦ λ _. refl ] refl in
    ap (find (λ r. is_pivot order r x)) (take_more rows n row h ∙ ap (λ r. take n rows ++ r ∷ []) (sym read)) ∙ find_after (λ r. is_pivot order r x) (take n rows) (row ∷ []) none ∙ ap (λ b. cond b (Some row) None) test

pub scan_found : (p : ℕ) (order : Order) (rows : List Row) (x : Integral) (n : ℕ) (row : Row) → All (IsRow p order) rows → n < length rows → row ≡ get_or rows n row → find (λ r. is_pivot order r x) (take n rows) ≡ None → IsPivot order row x → rule_for order rows x ≡ Some row
scan_found p order rows x n row is h read none pivot =
    let is_row : IsRow p order row = subst (IsRow p order) (sym read) (is n row h) in
    let test : is_pivot order row x ≡ true = test-from_IsPivot p order row x is_row pivot in
    let split : take n rows ++ drop n rows ≡ rows = take-append-drop n rows in
    ap (find (λ r. is_pivot order r x)) (sym split) ∙ find_after (λ r. is_pivot order r x) (take n rows) (drop n rows) none
    ∙ ap (find (λ r. is_pivot order r x)) (drop-cons rows n row h) ∙ ap (λ r. find (λ r. is_pivot order r x) (r ∷ drop (suc n) rows)) (sym read) ∙ ap (λ b. cond b (Some row) (find (λ r. is_pivot order r x) (drop (suc n) rows))) test

pub scan_missed : (order : Order) (rows : List Row) (x : Integral) (n : ℕ) → length rows ≤ n → n ≤ length rows → find (λ r. is_pivot order r x) (take n rows) ≡ None → rule_for order rows x ≡ None
scan_missed order rows x n low high none =
    ap (find (λ r. is_pivot order r x)) (sym (ap (λ k. take k rows) (let e : n ≡ length rows = omega arith in e) ∙ take-length rows)) ∙ none

pub not_less_of_index : (r : Ordering) → eqb (ordering_index r) 0 ≡ false → r ≢ Less
not_less_of_index Less h e = false≢true (sym h)
not_less_of_index Equal h e = cc
not_less_of_index Greater h e = cc

-- a modulus of which there is a residue isn't 0
pub positive_modulus : (p : ℕ) (order : Order) (row : Row) → IsRow p order row → 0 < p
positive_modulus p order row is = let any : Integral = record { family = 0; indices = [] } in omega (arith, is.below any)

-- an answer with two facts that are equivalent
pub exact_answer : (p : ℕ) (order : Order) (equations table : List Row) (down up : List (List ℕ)) (answer : Bool) → IsEchelon p order table → AreSums p equations down table → (IsTrue answer ↔ AreSums p table up equations) → IsTrue answer ↔ IsShownReduced p order equations table down up
exact_answer p order equations table down up answer e spanned says =
    (λ test. record { echelon = e; spanned = spanned; spans = says.0 test }, λ s. says.1 s.spans)

-- ---- the normal form by a scan

pub form_of_scan : (p : ℕ) (order : Order) (zeros : List ℕ) (rows : List Row) (x : Integral) (rule : Row) → is_zero_sector zeros (sector_of x.indices) ≡ false → rule_for order rows x ≡ Some rule → normal_form p order zeros rows x ≡ solved p rule x
form_of_scan p order zeros rows x rule nonzero found = form_of_rule p order zeros rows x (Some rule) nonzero found

pub form_of_none : (p : ℕ) (order : Order) (zeros : List ℕ) (rows : List Row) (x : Integral) → is_zero_sector zeros (sector_of x.indices) ≡ false → rule_for order rows x ≡ None → normal_form p order zeros rows x ≡ unit_row order x
form_of_none p order zeros rows x nonzero missing = form_of_rule p order zeros rows x None nonzero missing
