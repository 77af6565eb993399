-- Rows that are appended one after another.
use Rattle.std.proofs.Common.{◌≡◌, ℕ, zero, suc, ◌+◌, List, [], ◌∷◌, ◌++◌, map, sym, ap, subst, ◌∙◌, arith, append_assoc, append-nil}
use Rattle.std.specs.List.{AllZip, flat_map, range_with_len}
use Rattle.std.proofs.lemmas.List.{flat_map_more}
use Rattle.sparse_row.specs.Row.{Row}
use Rattle.job_equations.specs.Places.{numbers_to}
use Rattle.job_equations.specs.Appending.{Appends}

module _ {A : Type 0} (R : A → Row → Type 0) where
  AllZip-append : (xs ys : List A) (us vs : List Row) → AllZip R xs us → AllZip R ys vs → AllZip R (xs ++ ys) (us ++ vs)
  AllZip-append [] ys [] vs h k = k
  AllZip-append [] ys (u ∷ us) vs h k = absurd h
  AllZip-append (x ∷ xs) ys [] vs h k = absurd h
  AllZip-append (x ∷ xs) ys (u ∷ us) vs h k = (h.0, AllZip-append xs ys us vs h.1 k)

  pub Appends-none : (rows : List Row) → Appends R [] rows rows
  Appends-none rows = record { added = []; is = sym (append-nil rows); each = tt }

  pub Appends-one : (x : A) (old new : List Row) (row : Row) → R x row → new ≡ old ++ row ∷ [] → Appends R (x ∷ []) old new
  Appends-one x old new row h is = record { added = row ∷ []; is = is; each = (h, tt) }

  -- some rows after others
  pub Appends-more : (xs ys : List A) (old middle new : List Row) → Appends R xs old middle → Appends R ys middle new → Appends R (xs ++ ys) old new
  Appends-more xs ys old middle new h k = record {
    added = h.added ++ k.added;
    is = k.is ∙ ap (λ rows. rows ++ k.added) h.is ∙ append_assoc old h.added k.added;
    each = AllZip-append xs ys h.added k.added h.each k.each;
  }

  -- the rows for what one more is replaced by
  pub Appends-joined : {X : Type 0} (f : X → List A) (xs : List X) (x : X) (old middle new : List Row) → Appends R (flat_map f xs) old middle → Appends R (f x) middle new → Appends R (flat_map f (xs ++ x ∷ [])) old new
  Appends-joined f xs x old middle new h k = subst (λ ys. Appends R ys old new) (flat_map_more f [] xs x) (Appends-more (flat_map f xs) (f x) old middle new h k)

  -- where nothing stood before, all rows were appended
  pub Appends-all : (xs : List A) (rows : List Row) → Appends R xs [] rows → AllZip R xs rows
  Appends-all xs rows h = subst (AllZip R xs) (sym h.is) h.each

module _ {A B : Type 0} (f : A → B) (Q : A → Row → Type 0) (R : B → Row → Type 0) (to : (x : A) (row : Row) → Q x row → R (f x) row) where
  AllZip-mapped : (xs : List A) (rows : List Row) → AllZip Q xs rows → AllZip R (map f xs) rows
  AllZip-mapped [] [] h = tt
  AllZip-mapped [] (row ∷ rows) h = absurd h
  AllZip-mapped (x ∷ xs) [] h = absurd h
  AllZip-mapped (x ∷ xs) (row ∷ rows) h = (to x row h.0, AllZip-mapped xs rows h.1)

  -- what stands in a relation to something stands in another to its image
  pub Appends-map : (xs : List A) (old new : List Row) → Appends Q xs old new → Appends R (map f xs) old new
  Appends-map xs old new h = record { added = h.added; is = h.is; each = AllZip-mapped xs h.added h.each }

range_more : (a n : ℕ) → range_with_len a (n + 1) ≡ range_with_len a n ++ (a + n) ∷ []
range_more a zero = let e : a ≡ a + 0 = omega arith in ap (λ k. k ∷ []) e
range_more a (suc n) =
    let next : suc n + 1 ≡ suc (n + 1) = omega arith in
    let last : a + 1 + n ≡ a + suc n = omega arith in
    ap (range_with_len a) next ∙ ap (λ ks. a ∷ ks) (range_more (a + 1) n ∙ ap (λ k. range_with_len (a + 1) n ++ k ∷ []) last)

-- one number more
pub numbers_to-more : (n : ℕ) → numbers_to (n + 1) ≡ numbers_to n ++ (n + 1) ∷ []
numbers_to-more n = let e : 1 + n ≡ n + 1 = omega arith in range_more 1 n ∙ ap (λ k. range_with_len 1 n ++ k ∷ []) e
