-- Integrals, terms and sums are read back from their texts.
use Rattle.std.proofs.Common.{◌≡◌, ℕ, suc, ◌<◌, ◌≤◌, ◌^◌, inl, inr, List, [], ◌∷◌, ◌++◌, length, refl, sym, ap, arith, length-append, codes}
use Rattle.std.specs.Prelude.{ℤ, pos, negsuc, decimal}
use Rattle.std.specs.Fmt.{signed_decimal}
use Rattle.std.specs.List.{flat_map, join_by, AllByRecursion}
use Rattle.std.proofs.lemmas.Bool.{cases_order}
use Rattle.std.proofs.lemmas.Fmt.{decimal_by_steps, decimal_injective, decimal_nonempty, signed_decimal_injective}
use Rattle.std.proofs.lemmas.List.{append_cancel_left, append_cancel_right}
use Rattle.std.proofs.lemmas.List.Elements.{recursion_from_All}
use lib.Signed.{mag}
use Rattle.integral_index.specs.Integral.{Integral, IsIndex}
use Rattle.table_text.specs.Pieces.{integral_text, name_of, sum_text, term_text}
use Rattle.table_text.specs.Laws.{AreFamilyNames, IsNamed}
use Rattle.table_text.proofs.Cutting.{Lacks, cut, lacks_each, lacks-append, lacks-flat_map, same_joined, same_some}

-- ---- numbers

-- a decimal number has digits alone, of which '0' is the least
pub lacks-decimal : (c n : ℕ) → c < 48 → n < 2 ^ 64 → Lacks c (decimal n)
lacks-decimal c n low small =
    decimal_by_steps (λ _ ds. Lacks c ds)
    (λ m below. (omega arith, tt))
    (λ m ds above front. lacks-append c ds _ front (omega arith, tt))
    n small

small_index : (z : ℤ) → IsIndex z → mag z < 2 ^ 63
small_index (pos n) h = omega (arith, h.0)
small_index (negsuc n) h = omega (arith, h.1)

-- and of an index, beside these, the sign
lacks-index : (c : ℕ) (z : ℤ) → c < 45 → IsIndex z → Lacks c (signed_decimal z)
lacks-index c (pos n) low h = lacks-decimal c n (omega arith) (omega (arith, h.0))
lacks-index c (negsuc n) low h = (omega arith, lacks-decimal c (suc n) (omega arith) (omega (arith, h.1)))

some_index : (z : ℤ) → IsIndex z → 0 < length (signed_decimal z)
some_index (pos n) h = decimal_nonempty n (omega (arith, h.0))
some_index (negsuc n) h = omega arith

same_index : (y z : ℤ) → IsIndex y → IsIndex z → signed_decimal y ≡ signed_decimal z → y ≡ z
same_index y z hy hz e = signed_decimal_injective y z (small_index y hy) (small_index z hz) e

-- ---- lists of indices

abbrev indices_text : List ℤ → List ℕ
indices_text = join_by signed_decimal (codes ",")

same_indices : (xs ys : List ℤ) → AllByRecursion IsIndex xs → AllByRecursion IsIndex ys → indices_text xs ≡ indices_text ys → xs ≡ ys
same_indices = same_joined IsIndex signed_decimal 44 [] (λ z h. lacks-index 44 z (omega arith) h) same_index some_index

lacks-further_indices : (c : ℕ) (xs : List ℤ) → c < 44 → AllByRecursion IsIndex xs → AllByRecursion (λ z. Lacks c (codes "," ++ signed_decimal z)) xs
lacks-further_indices c [] low h = tt
lacks-further_indices c (z ∷ xs) low h = ((omega arith, lacks-index c z (omega arith) h.0), lacks-further_indices c xs low h.1)

lacks-indices : (c : ℕ) (xs : List ℤ) → c < 44 → AllByRecursion IsIndex xs → Lacks c (indices_text xs)
lacks-indices c [] low h = tt
lacks-indices c (z ∷ xs) low h = lacks-append c (signed_decimal z) _ (lacks-index c z (omega arith) h.0) (lacks-flat_map c (λ y. codes "," ++ signed_decimal y) xs (lacks-further_indices c xs low h.1))

-- ---- integrals

module _ (names : List (List ℕ)) (are : AreFamilyNames names) where
  abbrev name : ℕ → List ℕ
  name = name_of names

  lacks_10 : (family : ℕ) → family < length names → Lacks 10 (name family)
  lacks_10 family h = lacks_each 10 (name family) (λ k d below. (are.plain family [] h k d below).0)

  lacks_32 : (family : ℕ) → family < length names → Lacks 32 (name family)
  lacks_32 family h = lacks_each 32 (name family) (λ k d below. (are.plain family [] h k d below).1)

  pub lacks_91 : (family : ℕ) → family < length names → Lacks 91 (name family)
  lacks_91 family h = lacks_each 91 (name family) (λ k d below. (are.plain family [] h k d below).2)

  same_family : (f g : ℕ) → f < length names → g < length names → name f ≡ name g → f ≡ g
  same_family f g hf hg e =
      elim (cases_order f g) [
        | inl same ↦ same
        | inr (inl below) ↦ absurd (are.differ f g [] below hg e)
        | inr (inr above) ↦ absurd (are.differ g f [] above hf (sym e))
      ]

  indices_of : (x : Integral) → IsNamed names x → AllByRecursion IsIndex x.indices
  indices_of x named = recursion_from_All IsIndex x.indices named.indices

  abbrev text_of : Integral → List ℕ
  text_of x = integral_text (name x.family) x

  pub same_integral : (x y : Integral) → IsNamed names x → IsNamed names y → text_of x ≡ text_of y → x ≡ y
  same_integral x y nx ny e =
      let parts = cut 91 (name x.family) (name y.family) (91 ∷ (indices_text x.indices ++ codes "]")) (91 ∷ (indices_text y.indices ++ codes "]")) (lacks_91 x.family nx.family) (lacks_91 y.family ny.family) refl refl e in
      let inner : indices_text x.indices ++ codes "]" ≡ indices_text y.indices ++ codes "]" = append_cancel_left (91 ∷ []) _ _ parts.1 in
      let indices : x.indices ≡ y.indices = same_indices x.indices y.indices (indices_of x nx) (indices_of y ny) (append_cancel_right _ _ (codes "]") inner) in
      let family : x.family ≡ y.family = same_family x.family y.family nx.family ny.family parts.0 in
      λ i. record { family = family i; indices = indices i }

  lacks-integral : (c : ℕ) (x : Integral) → c < 44 → IsNamed names x → Lacks c (name x.family) → Lacks c (text_of x)
  lacks-integral c x low named plain =
      lacks-append c (name x.family) _ plain (omega arith, lacks-append c (indices_text x.indices) (codes "]") (lacks-indices c x.indices low (indices_of x named)) (omega arith, tt))

  pub lacks_blank : (x : Integral) → IsNamed names x → Lacks 32 (text_of x)
  lacks_blank x named = lacks-integral 32 x (omega arith) named (lacks_32 x.family named.family)

  lacks_end : (x : Integral) → IsNamed names x → Lacks 10 (text_of x)
  lacks_end x named = lacks-integral 10 x (omega arith) named (lacks_10 x.family named.family)

  -- ---- terms and sums

  pub record IsWritten (term : Integral × ℕ) : Type 0 where
    pub named : IsNamed names term.0
    pub word : term.1 < 2 ^ 64

  abbrev text_of_term : Integral × ℕ → List ℕ
  text_of_term = term_text name

  same_term : (t u : Integral × ℕ) → IsWritten t → IsWritten u → text_of_term t ≡ text_of_term u → t ≡ u
  same_term t u wt wu e =
      let parts = cut 42 (decimal t.1) (decimal u.1) (42 ∷ text_of t.0) (42 ∷ text_of u.0) (lacks-decimal 42 t.1 (omega arith) wt.word) (lacks-decimal 42 u.1 (omega arith) wu.word) refl refl e in
      let integral : t.0 ≡ u.0 = same_integral t.0 u.0 wt.named wu.named (append_cancel_left (42 ∷ []) _ _ parts.1) in
      let coefficient : t.1 ≡ u.1 = decimal_injective t.1 u.1 wt.word wu.word parts.0 in
      λ i. (integral i, coefficient i)

  lacks-term : (c : ℕ) (t : Integral × ℕ) → c < 42 → IsWritten t → Lacks c (text_of t.0) → Lacks c (text_of_term t)
  lacks-term c t low w plain = lacks-append c (decimal t.1) _ (lacks-decimal c t.1 (omega arith) w.word) (omega arith, plain)

  term_without_blank : (t : Integral × ℕ) → IsWritten t → Lacks 32 (text_of_term t)
  term_without_blank t w = lacks-term 32 t (omega arith) w (lacks_blank t.0 w.named)

  -- a sum of terms is longer than 0 is
  long_term : (t : Integral × ℕ) → IsWritten t → (rest : List ℕ) → 2 ≤ length (text_of_term t ++ rest)
  long_term t w rest = omega (arith, length-append (text_of_term t) rest, length-append (decimal t.1) (42 ∷ text_of t.0), decimal_nonempty t.1 w.word)

  pub same_sum : (ts us : List (Integral × ℕ)) → AllByRecursion IsWritten ts → AllByRecursion IsWritten us → sum_text name ts ≡ sum_text name us → ts ≡ us
  same_sum [] [] wt wu e = refl
  same_sum [] (u ∷ us) wt wu e = absurd (let h : length (sum_text name (u ∷ us)) ≡ 1 = sym (ap length e) in omega (arith, h, long_term u wu.0 (flat_map (λ y. codes " + " ++ text_of_term y) us)))
  same_sum (t ∷ ts) [] wt wu e = absurd (let h : length (sum_text name (t ∷ ts)) ≡ 1 = ap length e in omega (arith, h, long_term t wt.0 (flat_map (λ y. codes " + " ++ text_of_term y) ts)))
  same_sum (t ∷ ts) (u ∷ us) wt wu e = same_some IsWritten text_of_term 32 (43 ∷ 32 ∷ []) term_without_blank same_term t u ts us wt.0 wu.0 wt.1 wu.1 e

  term_without_end : (t : Integral × ℕ) → IsWritten t → Lacks 10 (text_of_term t)
  term_without_end t w = lacks-term 10 t (omega arith) w (lacks_end t.0 w.named)

  further_without_end : (ts : List (Integral × ℕ)) → AllByRecursion IsWritten ts → AllByRecursion (λ t. Lacks 10 (codes " + " ++ text_of_term t)) ts
  further_without_end [] w = tt
  further_without_end (t ∷ ts) w = ((omega arith, (omega arith, (omega arith, term_without_end t w.0))), further_without_end ts w.1)

  pub sum_without_end : (ts : List (Integral × ℕ)) → AllByRecursion IsWritten ts → Lacks 10 (sum_text name ts)
  sum_without_end [] w = (omega arith, tt)
  sum_without_end (t ∷ ts) w = lacks-append 10 (text_of_term t) _ (term_without_end t w.0) (lacks-flat_map 10 (λ y. codes " + " ++ text_of_term y) ts (further_without_end ts w.1))
