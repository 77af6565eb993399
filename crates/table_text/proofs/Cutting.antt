-- Texts that are cut at the first place of a byte, and lists that are read back from their joined pieces.
use Rattle.std.proofs.Common.{◌≡◌, ◌≢◌, ℕ, suc, ◌<◌, List, [], ◌∷◌, ◌++◌, length, get_or, refl, sym, ap, ◌∙◌, arith, append_assoc, length-append}
use Rattle.std.specs.List.{flat_map, join_by, AllByRecursion}
use Rattle.std.proofs.lemmas.List.{append_cancel_left}

-- the byte stands nowhere in the text
abbrev pub Lacks : ℕ → List ℕ → Type 0
Lacks c [] = Unit {0}
Lacks c (x ∷ xs) = (x ≢ c) × Lacks c xs

-- the text is empty, or begins with the byte
abbrev pub Begins : ℕ → List ℕ → Type 0
Begins c [] = Unit {0}
Begins c (x ∷ xs) = x ≡ c

pub lacks_each : (c : ℕ) (xs : List ℕ) → ((k d : ℕ) → k < length xs → get_or xs k d ≢ c) → Lacks c xs
lacks_each c [] h = tt
lacks_each c (x ∷ xs) h = (h 0 x (omega arith), lacks_each c xs (λ k d below. h (suc k) d (omega arith)))

pub lacks-append : (c : ℕ) (xs ys : List ℕ) → Lacks c xs → Lacks c ys → Lacks c (xs ++ ys)
lacks-append c [] ys lx ly = ly
lacks-append c (x ∷ xs) ys lx ly = (lx.0, lacks-append c xs ys lx.1 ly)

-- two texts of which each begins with a piece without the byte, and then ends or goes on with the byte
pub cut : (c : ℕ) (a b s t : List ℕ) → Lacks c a → Lacks c b → Begins c s → Begins c t → a ++ s ≡ b ++ t → (a ≡ b) × (s ≡ t)
cut c [] [] s t la lb bs bt e = (refl, e)
cut c [] (y ∷ b) [] t la lb bs bt e = absurd (let h : length (y ∷ (b ++ t)) ≡ 0 = sym (ap length e) in omega (arith, h))
cut c [] (y ∷ b) (x ∷ s) t la lb bs bt e = absurd (let same : x ≡ y = cc in lb.0 (sym same ∙ bs))
cut c (x ∷ a) [] s [] la lb bs bt e = absurd (let h : length (x ∷ (a ++ s)) ≡ 0 = ap length e in omega (arith, h))
cut c (x ∷ a) [] s (y ∷ t) la lb bs bt e = absurd (let same : x ≡ y = cc in la.0 (same ∙ bt))
cut c (x ∷ a) (y ∷ b) s t la lb bs bt e =
    let same : x ≡ y = cc in
    let later : a ++ s ≡ b ++ t = cc in
    let parts = cut c a b s t la.1 lb.1 bs bt later in
    (λ i. same i ∷ parts.0 i, parts.1)

-- pieces without the byte c, each behind the byte c and what comes after it
module _ {X : Type 0} (P : X → Type 0) (f : X → List ℕ) (c : ℕ) (after : List ℕ) (lacks : (x : X) → P x → Lacks c (f x)) (one : (x y : X) → P x → P y → f x ≡ f y → x ≡ y) where
  abbrev further : List X → List ℕ
  further xs = flat_map (λ x. (c ∷ after) ++ f x) xs

  begins_further : (xs : List X) → Begins c (further xs)
  begins_further [] = tt
  begins_further (x ∷ xs) = refl

  pub same_further : (xs ys : List X) → AllByRecursion P xs → AllByRecursion P ys → further xs ≡ further ys → xs ≡ ys
  same_further [] [] px py e = refl
  same_further [] (y ∷ ys) px py e = absurd (let h : length (further (y ∷ ys)) ≡ 0 = sym (ap length e) in omega (arith, h))
  same_further (x ∷ xs) [] px py e = absurd (let h : length (further (x ∷ xs)) ≡ 0 = ap length e in omega (arith, h))
  same_further (x ∷ xs) (y ∷ ys) px py e =
      let inner : f x ++ further xs ≡ f y ++ further ys =
      append_cancel_left (c ∷ after) _ _ (sym (append_assoc (c ∷ after) (f x) (further xs)) ∙ e ∙ append_assoc (c ∷ after) (f y) (further ys)) in
      let parts = cut c (f x) (f y) (further xs) (further ys) (lacks x px.0) (lacks y py.0) (begins_further xs) (begins_further ys) inner in
      let rest = same_further xs ys px.1 py.1 parts.1 in
      λ i. one x y px.0 py.0 parts.0 i ∷ rest i

  pub same_some : (x y : X) (xs ys : List X) → P x → P y → AllByRecursion P xs → AllByRecursion P ys → join_by f (c ∷ after) (x ∷ xs) ≡ join_by f (c ∷ after) (y ∷ ys) → x ∷ xs ≡ y ∷ ys
  same_some x y xs ys hx hy px py e =
      let parts = cut c (f x) (f y) (further xs) (further ys) (lacks x hx) (lacks y hy) (begins_further xs) (begins_further ys) e in
      let rest = same_further xs ys px py parts.1 in
      λ i. one x y hx hy parts.0 i ∷ rest i

  -- joined pieces of which none is empty
  pub same_joined : ((x : X) → P x → 0 < length (f x)) → (xs ys : List X) → AllByRecursion P xs → AllByRecursion P ys → join_by f (c ∷ after) xs ≡ join_by f (c ∷ after) ys → xs ≡ ys
  same_joined some [] [] px py e = refl
  same_joined some [] (y ∷ ys) px py e = absurd (let h : length (f y ++ further ys) ≡ 0 = sym (ap length e) in omega (arith, h, length-append (f y) (further ys), some y py.0))
  same_joined some (x ∷ xs) [] px py e = absurd (let h : length (f x ++ further xs) ≡ 0 = ap length e in omega (arith, h, length-append (f x) (further xs), some x px.0))
  same_joined some (x ∷ xs) (y ∷ ys) px py e = same_some x y xs ys px.0 py.0 px.1 py.1 e

-- a joined text lacks a byte that neither a piece nor the separator has
pub lacks-flat_map : {X : Type 0} (b : ℕ) (f : X → List ℕ) (xs : List X) → AllByRecursion (λ x. Lacks b (f x)) xs → Lacks b (flat_map f xs)
lacks-flat_map b f [] h = tt
lacks-flat_map b f (x ∷ xs) h = lacks-append b (f x) (flat_map f xs) h.0 (lacks-flat_map b f xs h.1)
