-- Combinations of functions into the numbers, and what they span modulo p.
-- A function is whatever gives each integral a coefficient; `RowSpans` has the same for rows.
use Rattle.std.proofs.Common.{◌≡◌, ◌≢◌, ℕ, zero, suc, ◌+◌, ◌*◌, ◌%◌, ◌<◌, List, [], ◌∷◌, ◌++◌, length, get_or, refl, sym, ap, ◌∙◌, ◌⊎◌, inl, inr, arith, zero-add, add-zero, add_assoc}
use Rattle.std.proofs.Math.Nat.{add-mod, zero-mod, zero-mul, one-mul, suc-ne-zero, add-mul, mul-add, mul_assoc, mul-zero}
use Rattle.std.proofs.lemmas.Nat.{mul-mod_first, mul-mod_second}
use Rattle.sparse_row.specs.Span.{combination}

-- the function at a place of the list, and nothing past its end
abbrev pub at : {K : Type 0} → List (K → ℕ) → ℕ → K → ℕ
at fs k = get_or fs k (λ _. 0)

-- a number is 0 or not
decided : (n : ℕ) → (n ≡ 0) ⊎ (n ≢ 0)
decided zero = inl refl
decided (suc n) = inr (suc-ne-zero n)

-- a sum whose parts are known modulo p
sums : (p a b c d : ℕ) → a % p ≡ c % p → b % p ≡ d % p → (a + b) % p ≡ (c + d) % p
sums p a b c d e f = add-mod a b p ∙ ap (λ u. (u + b % p) % p) e ∙ ap (λ u. (c % p + u) % p) f ∙ sym (add-mod c d p)

-- a multiple of what is known modulo p
multiples : (p n a b : ℕ) → a % p ≡ b % p → (n * a) % p ≡ (n * b) % p
multiples p n a b e = sym (mul-mod_second n a p) ∙ ap (λ u. (n * u) % p) e ∙ mul-mod_second n b p

module _ {K : Type 0} (p : ℕ) where
  -- multipliers that agree where they count give the same sum
  pub combination-agree : (c d : ℕ → ℕ) (fs : List (K → ℕ)) (x : K) → ((k : ℕ) → k < length fs → (c k * at fs k x) % p ≡ (d k * at fs k x) % p) → combination c fs x % p ≡ combination d fs x % p
  combination-agree c d [] x same = refl
  combination-agree c d (f ∷ fs) x same =
      sums p _ _ _ _ (same 0 (omega arith)) (combination-agree (λ k. c (suc k)) (λ k. d (suc k)) fs x (λ k h. same (suc k) (omega arith)))

  -- a multiplier has the same effect as its residue
  pub combination-residues : (c : ℕ → ℕ) (fs : List (K → ℕ)) (x : K) → combination (λ k. c k % p) fs x % p ≡ combination c fs x % p
  combination-residues c fs x = combination-agree (λ k. c k % p) c fs x (λ k _. mul-mod_first (c k) (at fs k x) p)

  -- a sum of nothing but multiples of p
  pub combination-none : (c : ℕ → ℕ) (fs : List (K → ℕ)) (x : K) → ((k : ℕ) → k < length fs → (c k * at fs k x) % p ≡ 0) → combination c fs x % p ≡ 0
  combination-none c [] x none = zero-mod p
  combination-none c (f ∷ fs) x none =
      sums p _ _ 0 0 (none 0 (omega arith) ∙ sym (zero-mod p)) (combination-none (λ k. c (suc k)) fs x (λ k h. none (suc k) (omega arith)) ∙ sym (zero-mod p)) ∙ zero-mod p

  -- a sum that is not 0 has a part that is not 0
  pub combination-some : (c : ℕ → ℕ) (fs : List (K → ℕ)) (x : K) → combination c fs x % p ≢ 0 → (k : ℕ) × (k < length fs) × ((c k * at fs k x) % p ≢ 0)
  combination-some c [] x h = absurd (h (zero-mod p))
  combination-some c (f ∷ fs) x h =
      elim (decided ((c 0 * f x) % p)) [
        | inr some ↦ (0, omega arith, some)
        | inl none ↦
            let rest : combination (λ k. c (suc k)) fs x % p ≢ 0 = λ e. h (sums p _ _ 0 0 (none ∙ sym (zero-mod p)) (e ∙ sym (zero-mod p)) ∙ zero-mod p) in
            let later = combination-some (λ k. c (suc k)) fs x rest in
            (suc later.0, omega (arith, later.1), later.2)
      ]

  -- where all other parts are multiples of p, one part is the sum
  pub combination-only : (c : ℕ → ℕ) (fs : List (K → ℕ)) (x : K) (j : ℕ) → j < length fs → ((k : ℕ) → k < length fs → k ≢ j → (c k * at fs k x) % p ≡ 0) → combination c fs x % p ≡ (c j * at fs j x) % p
  combination-only c [] x j h others = absurd (omega arith)
  combination-only c (f ∷ fs) x zero h others =
      sums p _ _ (c 0 * f x) 0 refl (combination-none (λ k. c (suc k)) fs x (λ k l. others (suc k) (omega arith) (suc-ne-zero k)) ∙ sym (zero-mod p)) ∙ ap (λ u. u % p) (add-zero _)
  combination-only c (f ∷ fs) x (suc j) h others =
      sums p _ _ 0 (c (suc j) * at fs j x) (others 0 (omega arith) (λ e. suc-ne-zero j (sym e)) ∙ sym (zero-mod p)) (combination-only (λ k. c (suc k)) fs x j (omega arith) (λ k l ne. others (suc k) (omega arith) (λ e. ne (omega arith)))) ∙ ap (λ u. u % p) (zero-add _)

module _ {K : Type 0} where
  pub combination-add : (c d : ℕ → ℕ) (fs : List (K → ℕ)) (x : K) → combination (λ k. c k + d k) fs x ≡ combination c fs x + combination d fs x
  combination-add c d [] x = refl
  combination-add c d (f ∷ fs) x =
      let rest = combination-add (λ k. c (suc k)) (λ k. d (suc k)) fs x in
      let here = add-mul (c 0) (d 0) (f x) in
      omega arith

  pub combination-times : (n : ℕ) (c : ℕ → ℕ) (fs : List (K → ℕ)) (x : K) → combination (λ k. n * c k) fs x ≡ n * combination c fs x
  combination-times n c [] x = sym (mul-zero n)
  combination-times n c (f ∷ fs) x =
      let rest = combination-times n (λ k. c (suc k)) fs x in
      let here = mul_assoc n (c 0) (f x) in
      let whole = mul-add n (c 0 * f x) (combination (λ k. c (suc k)) fs x) in
      omega arith

  pub combination-nothing : (fs : List (K → ℕ)) (x : K) → combination (λ _. 0) fs x ≡ 0
  combination-nothing [] x = refl
  combination-nothing (f ∷ fs) x = let rest = combination-nothing fs x in let here = zero-mul (f x) in omega arith

  -- one function more
  pub combination-push : (c : ℕ → ℕ) (fs : List (K → ℕ)) (f : K → ℕ) (x : K) → combination c (fs ++ f ∷ []) x ≡ combination c fs x + c (length fs) * f x
  combination-push c [] f x = add-zero (c 0 * f x) ∙ sym (zero-add (c 0 * f x))
  combination-push c (g ∷ fs) f x =
      ap (λ u. c 0 * g x + u) (combination-push (λ k. c (suc k)) fs f x) ∙ sym (add_assoc (c 0 * g x) (combination (λ k. c (suc k)) fs x) (c (suc (length fs)) * f x))

-- the function is a combination of the list, modulo p
pub record IsSpanned {K : Type 0} (p : ℕ) (fs : List (K → ℕ)) (g : K → ℕ) : Type 0 where
  pub multiplier : ℕ → ℕ
  pub is : (x : K) → g x % p ≡ combination multiplier fs x % p

-- each function of the one list is a combination of the other
abbrev pub AllSpanned : {K : Type 0} → ℕ → List (K → ℕ) → List (K → ℕ) → Type 0
AllSpanned p gs fs = (k : ℕ) → k < length fs → IsSpanned p gs (at fs k)

module _ {K : Type 0} (p : ℕ) where
  pub IsSpanned-same : (fs : List (K → ℕ)) (g h : K → ℕ) → ((x : K) → h x % p ≡ g x % p) → IsSpanned p fs g → IsSpanned p fs h
  IsSpanned-same fs g h same s = record { multiplier = s.multiplier; is = λ x. same x ∙ s.is x }

  pub IsSpanned-zero : (fs : List (K → ℕ)) → IsSpanned p fs (λ _. 0)
  IsSpanned-zero fs = record { multiplier = λ _. 0; is = λ x. ap (λ u. u % p) (sym (combination-nothing fs x)) }

  pub IsSpanned-add : (fs : List (K → ℕ)) (g h : K → ℕ) → IsSpanned p fs g → IsSpanned p fs h → IsSpanned p fs (λ x. g x + h x)
  IsSpanned-add fs g h s t =
      record {
        multiplier = λ k. s.multiplier k + t.multiplier k;
        is = λ x. sums p _ _ _ _ (s.is x) (t.is x) ∙ ap (λ u. u % p) (sym (combination-add s.multiplier t.multiplier fs x));
      }

  pub IsSpanned-times : (fs : List (K → ℕ)) (n : ℕ) (g : K → ℕ) → IsSpanned p fs g → IsSpanned p fs (λ x. n * g x)
  IsSpanned-times fs n g s =
      record {
        multiplier = λ k. n * s.multiplier k;
        is = λ x. multiples p n _ _ (s.is x) ∙ ap (λ u. u % p) (sym (combination-times n s.multiplier fs x));
      }

  -- one more function in front
  IsSpanned-cons : (f : K → ℕ) (fs : List (K → ℕ)) (g : K → ℕ) → IsSpanned p fs g → IsSpanned p (f ∷ fs) g
  IsSpanned-cons f fs g s =
      let m : ℕ → ℕ = λ k. elim k [ zero ↦ 0 | suc k ↦ s.multiplier k ] in
      record { multiplier = m; is = λ x. s.is x ∙ ap (λ u. u % p) (sym (ap (λ u. u + combination s.multiplier fs x) (zero-mul (f x)) ∙ zero-add _)) }

  pub IsSpanned-at : (fs : List (K → ℕ)) (j : ℕ) → j < length fs → IsSpanned p fs (at fs j)
  IsSpanned-at [] j h = absurd (omega arith)
  IsSpanned-at (f ∷ fs) zero h =
      let m : ℕ → ℕ = λ k. elim k [ zero ↦ 1 | suc k ↦ 0 ] in
      record { multiplier = m; is = λ x. ap (λ u. u % p) (sym (ap (λ u. 1 * f x + u) (combination-nothing fs x) ∙ add-zero _ ∙ one-mul (f x))) }
  IsSpanned-at (f ∷ fs) (suc j) h = IsSpanned-cons f fs (at fs j) (IsSpanned-at fs j (omega arith))

  -- a combination of combinations of the list is one of the list
  gathered : (fs gs : List (K → ℕ)) (c : ℕ → ℕ) → AllSpanned p gs fs → IsSpanned p gs (combination c fs)
  gathered [] gs c each = IsSpanned-zero gs
  gathered (f ∷ fs) gs c each =
      IsSpanned-add gs (λ x. c 0 * f x) (combination (λ k. c (suc k)) fs) (IsSpanned-times gs (c 0) f (each 0 (omega arith)))
      (gathered fs gs (λ k. c (suc k)) (λ k h. each (suc k) (omega arith)))

  pub IsSpanned-trans : (fs gs : List (K → ℕ)) (g : K → ℕ) → AllSpanned p gs fs → IsSpanned p fs g → IsSpanned p gs g
  IsSpanned-trans fs gs g each s = IsSpanned-same gs (combination s.multiplier fs) g s.is (gathered fs gs s.multiplier each)

  -- the list has its own functions, and so has a longer one, wherever the rest stands
  pub AllSpanned-itself : (fs : List (K → ℕ)) → AllSpanned p fs fs
  AllSpanned-itself fs = IsSpanned-at fs

  pub AllSpanned-trans : (fs gs hs : List (K → ℕ)) → AllSpanned p gs fs → AllSpanned p hs gs → AllSpanned p hs fs
  AllSpanned-trans fs gs hs s t k h = IsSpanned-trans gs hs (at fs k) t (s k h)

  pub AllSpanned-cons : (fs gs : List (K → ℕ)) (f : K → ℕ) → IsSpanned p gs f → AllSpanned p gs fs → AllSpanned p gs (f ∷ fs)
  AllSpanned-cons fs gs f s each zero h = s
  AllSpanned-cons fs gs f s each (suc k) h = each k (omega arith)

  pub AllSpanned-append : (fs gs hs : List (K → ℕ)) → AllSpanned p hs fs → AllSpanned p hs gs → AllSpanned p hs (fs ++ gs)
  AllSpanned-append [] gs hs s t = t
  AllSpanned-append (f ∷ fs) gs hs s t =
      AllSpanned-cons (fs ++ gs) hs f (s 0 (omega arith)) (AllSpanned-append fs gs hs (λ k h. s (suc k) (omega arith)) t)

  pub AllSpanned-left : (fs gs : List (K → ℕ)) → AllSpanned p (fs ++ gs) fs
  AllSpanned-left [] gs k h = absurd (omega arith)
  AllSpanned-left (f ∷ fs) gs zero h = IsSpanned-at (f ∷ fs ++ gs) 0 (omega arith)
  AllSpanned-left (f ∷ fs) gs (suc k) h = IsSpanned-cons f (fs ++ gs) (at fs k) (AllSpanned-left fs gs k (omega arith))

  pub AllSpanned-right : (fs gs : List (K → ℕ)) → AllSpanned p (fs ++ gs) gs
  AllSpanned-right [] gs k h = IsSpanned-at gs k h
  AllSpanned-right (f ∷ fs) gs k h = IsSpanned-cons f (fs ++ gs) (at gs k) (AllSpanned-right fs gs k h)
