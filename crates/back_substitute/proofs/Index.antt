-- The list in which pivots are looked up.
use Rattle.std.proofs.Common.{◌≡◌, ℕ, ◌+◌, ◌<◌, List, [], ◌∷◌, ◌++◌, length, get_or, Contains, sym, ap, subst, ◌∙◌, inl, inr, arith}
use Rattle.std.specs.List.Sorted.{IsSorted, IsNonDecreasingBy, IsPartitionPoint, IsPermutation}
use Rattle.std.specs.Ordering.{ordering_index}
use Rattle.std.specs.declared.cmp.Ordering.TheVariants.{Less, Equal, Greater}
use Rattle.std.proofs.lemmas.Bool.{cases_lt}
use Rattle.std.proofs.lemmas.Cmp.{tied_itself}
use Rattle.std.proofs.lemmas.List.Elements.{All-push, Contains-append_left, Contains-push}
use Rattle.std.proofs.lemmas.List.Sorted.{All-permutation, Contains-permutation, searchable_from_sorted}
use Rattle.integral_index.specs.declared.Order.{Order}
use Rattle.integral_index.specs.Integral.{Integral}
use Rattle.integral_index.specs.Order.{compare}
use Rattle.integral_index.proofs.Orders.{compare-total, compare-IsAntisymmetric}
use Rattle.sparse_row.specs.Row.{Row, IsPivot}
use Rattle.sparse_row.proofs.RowValues.{greatest_same}
use Rattle.sector_forward.specs.Steps.{IsPivotAt}
use Rattle.sector_forward.proofs.StepLemmas.{same_at, IsPivotAt-from}
use Rattle.back_substitute.specs.declared.pivots.PivotPlace.{PivotPlace}
use Rattle.back_substitute.specs.Pivots.{by_pivot, IsPlaced, IsListing, HasNone}

-- ---- looking a pivot up

-- an entry that compares as equal is of the integral
pub found_entry : (order : Order) (index : List PivotPlace) (x : Integral) (found : ℕ) (d : PivotPlace) → found < length index → ((e : PivotPlace) → compare order (get_or index found e).pivot x ≡ Equal) → Contains index (record { pivot = x; place = (get_or index found d).place })
found_entry order index x found d within equal =
    let entry : PivotPlace = get_or index found d in
    let pivot : entry.pivot ≡ x = compare-IsAntisymmetric order entry.pivot x (equal d) in
    let same : ◌≡◌ {A = PivotPlace} entry (record { pivot = x; place = entry.place }) = λ i. record { pivot = pivot i; place = entry.place } in
    (found, within, same_at index found (record { pivot = x; place = entry.place }) d within ∙ same)

-- where the entries before a place are less and those from it on are greater, none is of the integral
pub none_found : (order : Order) (index : List PivotPlace) (x : Integral) (place : ℕ) → IsSorted (by_pivot order) index → (IsNonDecreasingBy (λ e. ordering_index (compare order e.pivot x)) index → IsPartitionPoint (λ e. compare order e.pivot x ≡ Less) (λ e. compare order e.pivot x ≡ Greater) index place) → HasNone x index
none_found order index x place sorted parted k d in_k e =
    let parts = parted (searchable_from_sorted (compare-total order) (λ e. e.pivot) index x sorted) in
    let tied : compare order (get_or index k d).pivot x ≡ Equal = ap (λ y. compare order y x) e ∙ tied_itself (compare-total order) x in
    elim (cases_lt k place) [
      | inl before ↦ let less = parts.0 k d (omega arith) before in cc
      | inr after ↦ let greater = parts.1 k d after in_k in cc
    ]

-- ---- making the list

-- the entries of the first rows
pub record IsListingBefore (order : Order) (rows : List Row) (n : ℕ) (entries : List PivotPlace) : Type 0 where
  pub each : (k : ℕ) (d : PivotPlace) → k < length entries → IsPlaced order rows (get_or entries k d)
  pub whole : (k : ℕ) (x : Integral) → k < n → IsPivotAt order rows k x → Contains entries (record { pivot = x; place = k })

pub IsListingBefore-none : (order : Order) (rows : List Row) → IsListingBefore order rows 0 []
IsListingBefore-none order rows =
    record { each = λ k d h. absurd (omega arith); whole = λ k x h. absurd (omega arith) }

pub IsListingBefore-more : (order : Order) (rows : List Row) (n : ℕ) (entries : List PivotPlace) (row : Row) (x : Integral) → n < length rows → row ≡ get_or rows n row → IsPivot order row x → IsListingBefore order rows n entries → IsListingBefore order rows (n + 1) (entries ++ (record { pivot = x; place = n }) ∷ [])
IsListingBefore-more order rows n entries row x within read pivot b =
    let entry : PivotPlace = record { pivot = x; place = n } in
    let at_n : IsPivotAt order rows n x = IsPivotAt-from order rows n row x within (subst (λ r. IsPivot order r x) read pivot) in
    record {
      each = All-push (IsPlaced order rows) entries entry b.each (within, at_n);
      whole = λ k y h at_k.
          elim (cases_lt k n) [
            | inl before ↦ Contains-append_left entries (entry ∷ []) (record { pivot = y; place = k }) (b.whole k y before at_k)
            | inr after ↦
                let last : n ≡ k = omega arith in
                let own : x ≡ y = greatest_same order (get_or rows n row) x y (at_n row).is_greatest (subst (λ m. IsPivotAt order rows m y) (sym last) at_k row).is_greatest in
                subst (Contains (entries ++ entry ∷ [])) (λ i. record { pivot = own i; place = last i }) (Contains-push entries entry)
          ];
    }

pub IsListing-before : (order : Order) (rows : List Row) (entries : List PivotPlace) → IsListingBefore order rows (length rows) entries → IsListing order rows entries
IsListing-before order rows entries b = record { each = b.each; whole = b.whole }

-- entries in another order
pub IsListing-permutation : (order : Order) (rows : List Row) (entries sorted : List PivotPlace) → IsPermutation entries sorted → IsListing order rows entries → IsListing order rows sorted
IsListing-permutation order rows entries sorted moved l =
    record {
      each = All-permutation (IsPlaced order rows) entries sorted moved l.each;
      whole = λ k x h at_k. Contains-permutation entries sorted (record { pivot = x; place = k }) moved (l.whole k x h at_k);
    }
