-- A descending list of terms, each times one factor modulo p.
use Rattle.std.proofs.Common.{◌≡◌, ◌≢◌, ℕ, ◌+◌, ◌*◌, ◌%◌, ◌<◌, Bool, true, false, cond, List, [], ◌∷◌, map, length, get_or, sym, ap, subst, ◌∙◌, arith}
use Rattle.std.proofs.Math.Nat.{mod-add-mod, add-mod-mod, mod-eq_of_lt, zero-mod, zero-mul, mul-one, mod-lt}
use Rattle.std.proofs.lemmas.Nat.{mul-mod_first, mul-mod_second}
use Rattle.std.specs.List.{AllByRecursion}
use Rattle.std.specs.Ordering.{eq_by_cmp}
use Rattle.field_word.specs.Residues.{IsInverse}
use Rattle.integral_index.specs.declared.Order.{Order}
use Rattle.integral_index.specs.Integral.{Integral}
use Rattle.integral_index.specs.Order.{by_fields}
use Rattle.sparse_row.specs.declared.Term.{Term}
use Rattle.sparse_row.specs.Row.{Row, coefficient, IsEmpty, IsGreatest, IsPivot}
use Rattle.sparse_row.specs.Terms.{total_at, scaled_term, IsTermList, row_of}
use Rattle.sparse_row.proofs.TermLists.{total_at-cons, AllUnder, Descends, Descends-from_pairs}
use Rattle.sparse_row.proofs.RowValues.{IsTerms, total_at-below, coefficient-row_of, IsGreatest-head, greatest_same, total_at-head, IsEmpty-row_of}

-- a residue other than 0 times a number with an inverse
product_nonzero : (p c g inverse : ℕ) → c < p → c ≢ 0 → (g * inverse) % p ≡ 1 → (c * inverse) % p ≢ 0
product_nonzero p c g inverse below nonzero one zero =
    let regroup : c * (g * inverse) ≡ c * inverse * g = omega arith in
    nonzero (
    sym (mod-eq_of_lt below) ∙ ap (λ n. n % p) (sym (mul-one c)) ∙ ap (λ n. (c * n) % p) (sym one) ∙ mul-mod_second c (g * inverse) p
    ∙ ap (λ n. n % p) regroup ∙ sym (mul-mod_first (c * inverse) g p) ∙ ap (λ n. (n * g) % p) zero ∙ ap (λ n. n % p) (zero-mul g) ∙ zero-mod p)

module _ (p factor : ℕ) where
  AllUnder-scaled : (order : Order) (x : Integral) (ts : List Term) → AllUnder order x ts → AllUnder order x (map (λ term. scaled_term p factor term) ts)
  AllUnder-scaled order x [] h = tt
  AllUnder-scaled order x (t ∷ ts) h = (h.0, AllUnder-scaled order x ts h.1)

  Descends-scaled : (order : Order) (ts : List Term) → Descends order ts → Descends order (map (λ term. scaled_term p factor term) ts)
  Descends-scaled order [] h = tt
  Descends-scaled order (t ∷ ts) h = (AllUnder-scaled order t.integral ts h.0, Descends-scaled order ts h.1)

  below-scaled : (ts : List Term) → 0 < p → AllByRecursion (λ t. t.coefficient < p) (map (λ term. scaled_term p factor term) ts)
  below-scaled [] positive = tt
  below-scaled (t ∷ ts) positive = (mod-lt _ positive, below-scaled ts positive)

  no_zero-scaled : (g : ℕ) (ts : List Term) → (g * factor) % p ≡ 1 → AllByRecursion (λ t. t.coefficient ≢ 0) ts → AllByRecursion (λ t. t.coefficient < p) ts → AllByRecursion (λ t. t.coefficient ≢ 0) (map (λ term. scaled_term p factor term) ts)
  no_zero-scaled g [] one n h = tt
  no_zero-scaled g (t ∷ ts) one n h = (product_nonzero p t.coefficient g factor h.0 n.0 one, no_zero-scaled g ts one n.1 h.1)

  pub IsTerms-scaled : (order : Order) (g : ℕ) (ts : List Term) → 0 < p → (g * factor) % p ≡ 1 → IsTerms p order ts → IsTerms p order (map (λ term. scaled_term p factor term) ts)
  IsTerms-scaled order g ts positive one h = record {
    descend = Descends-scaled order ts h.descend;
    no_zero = no_zero-scaled g ts one h.no_zero h.below;
    below = below-scaled ts positive;
  }

  part_mod : (b : Bool) (c rest total : ℕ) → rest % p ≡ (total * factor) % p → (cond b ((c * factor) % p) 0 + rest) % p ≡ ((cond b c 0 + total) * factor) % p
  part_mod b c rest total e = go b
    where
      whole : (n : ℕ) → (n + rest) % p ≡ (n + total * factor) % p
      whole n = sym (add-mod-mod n rest p) ∙ ap (λ k. (n + k) % p) e ∙ add-mod-mod n (total * factor) p

      go : (b : Bool) → (cond b ((c * factor) % p) 0 + rest) % p ≡ ((cond b c 0 + total) * factor) % p
      go true = mod-add-mod (c * factor) p rest ∙ whole (c * factor) ∙ ap (λ k. k % p) (let g : c * factor + total * factor ≡ (c + total) * factor = omega arith in g)
      go false = whole 0 ∙ ap (λ k. k % p) (let g : 0 + total * factor ≡ (0 + total) * factor = omega arith in g)

  total_at-scaled_mod : (x : Integral) (ts : List Term) → total_at x (map (λ term. scaled_term p factor term) ts) % p ≡ (total_at x ts * factor) % p
  total_at-scaled_mod x [] = ap (λ k. k % p) (let g : 0 ≡ 0 * factor = omega arith in g)
  total_at-scaled_mod x (t ∷ ts) =
      ap (λ k. k % p) (total_at-cons x (scaled_term p factor t) (map (λ term. scaled_term p factor term) ts))
      ∙ part_mod (eq_by_cmp by_fields x t.integral) t.coefficient (total_at x (map (λ term. scaled_term p factor term) ts)) (total_at x ts) (total_at-scaled_mod x ts)
      ∙ ap (λ k. (k * factor) % p) (sym (total_at-cons x t ts))

  pub total_at-scaled : (order : Order) (x : Integral) (ts : List Term) → 0 < p → Descends order ts → total_at x (map (λ term. scaled_term p factor term) ts) ≡ (total_at x ts * factor) % p
  total_at-scaled order x ts positive h =
      sym (mod-eq_of_lt (total_at-below p order x (map (λ term. scaled_term p factor term) ts) positive (Descends-scaled order ts h) (below-scaled ts positive)))
      ∙ total_at-scaled_mod x ts

-- ---- the greatest term of a row

pub some_term : (order : Order) (ts : List Term) → (IsEmpty (row_of order ts) → ⊥) → 0 < length ts
some_term order [] shown = absurd (shown (IsEmpty-row_of order))
some_term order (t ∷ ts) shown = omega arith

-- the first term has the coefficient of the greatest integral
pub coefficient-greatest : (order : Order) (ts : List Term) (t : Term) (x : Integral) → IsTermList order ts → 0 < length ts → t ≡ get_or ts 0 t → IsGreatest order (row_of order ts) x → coefficient (row_of order ts) x ≡ t.coefficient
coefficient-greatest order [] t x list some is greatest = absurd (omega arith)
coefficient-greatest order (u ∷ ts) t x list some is greatest =
    let descend = Descends-from_pairs order (u ∷ ts) list.descend in
    let same = greatest_same order (row_of order (u ∷ ts)) x u.integral greatest (IsGreatest-head order u ts list) in
    ap (coefficient (row_of order (u ∷ ts))) same ∙ coefficient-row_of order (u ∷ ts) descend u.integral ∙ total_at-head order u ts descend ∙ ap (λ v. v.coefficient) (sym is)

-- the same of a row that is kept as these terms
pub coefficient-greatest_of_row : (order : Order) (ts : List Term) (t : Term) (row : Row) → row_of order ts ≡ row → IsTermList order ts → (IsEmpty row → ⊥) → t ≡ get_or ts 0 t → (x : Integral) → IsGreatest row.order row x → coefficient row x ≡ t.coefficient
coefficient-greatest_of_row order ts t row is list shown first x greatest =
    let some = some_term order ts (subst (λ r. IsEmpty r → ⊥) (sym is) shown) in
    ap (λ r. coefficient r x) (sym is) ∙ coefficient-greatest order ts t x list some first (subst (λ r. IsGreatest r.order r x) (sym is) greatest)

-- ---- the row times the inverse of the greatest integral's coefficient

module _ (p : ℕ) (order : Order) (ts : List Term) (g inverse : ℕ) (positive : 0 < p) (terms : IsTerms p order ts) (is_inverse : IsInverse p g inverse) where
  terms_by_inverse : IsTerms p order (map (λ term. scaled_term p inverse term) ts)
  terms_by_inverse = IsTerms-scaled p inverse order g ts positive is_inverse.one terms

  pub coefficient-by_inverse : (y : Integral) → coefficient (row_of order (map (λ term. scaled_term p inverse term) ts)) y ≡ (coefficient (row_of order ts) y * inverse) % p
  coefficient-by_inverse y =
      coefficient-row_of order (map (λ term. scaled_term p inverse term) ts) terms_by_inverse.descend y ∙ total_at-scaled p inverse order y ts positive terms.descend
      ∙ ap (λ n. (n * inverse) % p) (sym (coefficient-row_of order ts terms.descend y))

  pub IsPivot-by_inverse : (x : Integral) → coefficient (row_of order ts) x ≡ g → IsGreatest order (row_of order ts) x → IsPivot order (row_of order (map (λ term. scaled_term p inverse term) ts)) x
  IsPivot-by_inverse x at greatest =
      let one : coefficient (row_of order (map (λ term. scaled_term p inverse term) ts)) x ≡ 1 = coefficient-by_inverse x ∙ ap (λ n. (n * inverse) % p) at ∙ is_inverse.one in
      record {
        is_greatest = record {
          shown = λ zero. absurd (omega (arith, one, zero));
          greatest = λ y shows. greatest.greatest y (λ zero. shows (coefficient-by_inverse y ∙ ap (λ n. (n * inverse) % p) zero ∙ ap (λ n. n % p) (zero-mul inverse) ∙ zero-mod p));
        };
        one = one;
      }
