-- Rows that are added in pairs keep their sum.
use Rattle.std.proofs.Common.{◌≡◌, ℕ, ◌+◌, ◌*◌, ◌%◌, ◌<◌, ◌≤◌, List, [], ◌∷◌, ◌++◌, length, All, refl, sym, ap, subst, ◌∙◌, arith, append-nil, length-append, zero-add}
use Rattle.std.proofs.Math.Nat.{mod-add-mod, add-mod-mod, one-mul, mod-eq_of_lt}
use Rattle.std.proofs.lemmas.List.{get_or_append_left, get_or_push}
use Rattle.std.proofs.lemmas.List.Elements.{All-push}
use Rattle.std.proofs.lemmas.List.Sums.{sum_by_push}
use Rattle.integral_index.specs.declared.Order.{Order}
use Rattle.integral_index.specs.Integral.{Integral}
use Rattle.sparse_row.specs.Row.{Row, coefficient, IsRow}
use Rattle.back_substitute.specs.Sums.{sum_at, IsSumOf, IsPaired, IsTaken}

-- parts that are the same modulo p
pub add_same : (p a b c : ℕ) → b % p ≡ c % p → (a + b) % p ≡ (a + c) % p
add_same p a b c same = sym (add-mod-mod a b p) ∙ ap (λ u. (a + u) % p) same ∙ add-mod-mod a c p

pub sum_at-push : (x : Integral) (rows : List Row) (row : Row) → sum_at x (rows ++ row ∷ []) ≡ sum_at x rows + coefficient row x
sum_at-push x rows row = sum_by_push (λ r. coefficient r x) rows row

module _ (p : ℕ) (order : Order) where
  -- ---- the last row is taken

  front_rows : (rows rest : List Row) (row : Row) → rows ≡ rest ++ row ∷ [] → All (IsRow p order) rows → All (IsRow p order) rest
  front_rows rows rest row e are k d h =
      let whole = subst (All (IsRow p order)) e are in
      subst (IsRow p order) (get_or_append_left rest (row ∷ []) d k h) (whole k d (omega (arith, length-append rest (row ∷ []))))

  last_row : (rows rest : List Row) (row : Row) → rows ≡ rest ++ row ∷ [] → All (IsRow p order) rows → IsRow p order row
  last_row rows rest row e are =
      let whole = subst (All (IsRow p order)) e are in
      subst (IsRow p order) (get_or_push rest row row (length rest) refl) (whole (length rest) row (omega (arith, length-append rest (row ∷ []))))

  pub IsTaken-some : (row other sum : Row) (others rest : List Row) → All (IsRow p order) others → others ≡ rest ++ other ∷ [] → IsRow p order sum → ((x : Integral) → coefficient sum x ≡ (coefficient row x + 1 * coefficient other x) % p) → IsTaken p order row others rest sum
  IsTaken-some row other sum others rest are e is added =
      record {
        is_row = is;
        are_rest = front_rows others rest other e are;
        same = λ x.
            let whole : sum_at x others ≡ sum_at x rest + coefficient other x = ap (sum_at x) e ∙ sum_at-push x rest other in
            let one : 1 * coefficient other x ≡ coefficient other x = one-mul (coefficient other x) in
            ap (λ u. (u + sum_at x rest) % p) (added x) ∙ mod-add-mod (coefficient row x + 1 * coefficient other x) p (sum_at x rest)
            ∙ ap (λ u. u % p) (let all : coefficient row x + 1 * coefficient other x + sum_at x rest ≡ coefficient row x + sum_at x others = omega arith in all);
        fewer = let len = ap length e in omega (arith, length-append rest (other ∷ []));
      }

  pub IsTaken-none : (row : Row) (others rest : List Row) → All (IsRow p order) others → others ≡ rest ++ [] → length others ≡ 0 → IsRow p order row → IsTaken p order row others rest row
  IsTaken-none row others rest are e none is =
      let same : others ≡ rest = e ∙ append-nil rest in
      subst (λ r. IsTaken p order row others r row) same
      (record { is_row = is; are_rest = are; same = λ x. refl; fewer = omega arith })

  -- ---- pairs

  -- those that were paired and those that are left have the sum of all
  pub record IsPairing (rows made rest : List Row) : Type 0 where
    pub are_made : All (IsRow p order) made
    pub are_rest : All (IsRow p order) rest
    pub same : (x : Integral) → (sum_at x made + sum_at x rest) % p ≡ sum_at x rows % p
    pub few : 2 * length made + length rest ≤ length rows + 1
    pub left : 0 < length rest → 2 * length made + length rest ≤ length rows
    pub enough : length rows ≤ 2 * length made + length rest

  pub IsPairing-start : (rows : List Row) → All (IsRow p order) rows → IsPairing rows [] rows
  IsPairing-start rows are =
      record {
        are_made = λ k d h. absurd (omega arith);
        are_rest = are;
        same = λ x. ap (λ u. u % p) (zero-add (sum_at x rows));
        few = omega arith;
        left = λ _. omega arith;
        enough = omega arith;
      }

  pub IsPairing-step : (rows made rest between after : List Row) (row sum : Row) → rest ≡ between ++ row ∷ [] → IsTaken p order row between after sum → IsPairing rows made rest → IsPairing rows (made ++ sum ∷ []) after
  IsPairing-step rows made rest between after row sum e t b =
      let len_rest : length rest ≡ length between + 1 = ap length e ∙ length-append between (row ∷ []) in
      let len_made : length (made ++ sum ∷ []) ≡ length made + 1 = length-append made (sum ∷ []) in
      let full : 2 * length made + length rest ≤ length rows = b.left (omega arith) in
      let enough = b.enough in
      let fewer = t.fewer in
      record {
        are_made = All-push (IsRow p order) made sum b.are_made t.is_row;
        are_rest = t.are_rest;
        same = λ x.
            let whole : sum_at x rest ≡ sum_at x between + coefficient row x = ap (sum_at x) e ∙ sum_at-push x between row in
            ap (λ u. (u + sum_at x after) % p) (sum_at-push x made sum)
            ∙ ap (λ u. u % p) (let move : sum_at x made + coefficient sum x + sum_at x after ≡ sum_at x made + (coefficient sum x + sum_at x after) = omega arith in move)
            ∙ add_same p (sum_at x made) (coefficient sum x + sum_at x after) (coefficient row x + sum_at x between) (t.same x)
            ∙ ap (λ u. u % p) (let back : sum_at x made + (coefficient row x + sum_at x between) ≡ sum_at x made + sum_at x rest = omega arith in back) ∙ b.same x;
        few = omega arith;
        left = λ some. omega arith;
        enough = omega arith;
      }

  pub IsPaired-end : (rows made rest : List Row) → length rest ≡ 0 → IsPairing rows made rest → IsPaired p order rows made
  IsPaired-end rows made [] none b =
      let few = b.few in
      let enough = b.enough in
      record {
        are_rows = b.are_made;
        same = λ x. ap (λ u. u % p) (let e : sum_at x made ≡ sum_at x made + sum_at x [] = omega arith in e) ∙ b.same x;
        few = omega arith;
        enough = omega arith;
      }
  IsPaired-end rows made (row ∷ rest) none b = absurd (omega arith)

  -- ---- until one is left

  -- rows of which there is one at least, with the sum of those that were given
  pub record IsSumming (rows now : List Row) : Type 0 where
    pub are_rows : All (IsRow p order) now
    pub same : (x : Integral) → sum_at x now % p ≡ sum_at x rows % p
    pub some : 0 < length now

  pub IsSumming-start : (rows : List Row) → All (IsRow p order) rows → 0 < length rows → IsSumming rows rows
  IsSumming-start rows are some = record { are_rows = are; same = λ x. refl; some = some }

  pub IsSumming-step : (rows now pairs : List Row) → IsPaired p order now pairs → IsSumming rows now → IsSumming rows pairs
  IsSumming-step rows now pairs t b =
      let enough = t.enough in
      let some = b.some in
      record { are_rows = t.are_rows; same = λ x. t.same x ∙ b.same x; some = omega arith }

  pub IsSumOf-end : (rows now rest : List Row) (row : Row) → now ≡ rest ++ row ∷ [] → length rest ≡ 0 → IsSumming rows now → IsSumOf p order rows row
  IsSumOf-end rows now [] row e none b =
      let is : IsRow p order row = last_row now [] row e b.are_rows in
      record {
        is_row = is;
        sum = λ x.
            let one : sum_at x now ≡ coefficient row x = ap (sum_at x) e ∙ sum_at-push x [] row ∙ zero-add (coefficient row x) in
            sym (mod-eq_of_lt (is.below x)) ∙ ap (λ u. u % p) (sym one) ∙ b.same x;
      }
  IsSumOf-end rows now (other ∷ rest) row e none b = absurd (omega arith)
