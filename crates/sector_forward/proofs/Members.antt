-- Two lists in one order with the same members are the same list.
use Rattle.std.proofs.Common.{◌≡◌, zero, suc, List, [], ◌∷◌, All, AllPairs, Contains, refl, sym, subst, ◌⊎◌, inl, inr, arith}
use Rattle.std.proofs.lemmas.List.Elements.{All-head, All-tail}

module _ {X : Type 0} where
  pub Contains-cons_cases : (y : X) (ys : List X) (x : X) → Contains (y ∷ ys) x → (y ≡ x) ⊎ Contains ys x
  Contains-cons_cases y ys x (zero, h, e) = inl e
  Contains-cons_cases y ys x (suc k, h, e) = inr (k, omega arith, e)

  pub Contains-here : (x : X) (xs : List X) → Contains (x ∷ xs) x
  Contains-here x xs = (0, omega arith, refl)

  pub Contains-there : (y : X) (xs : List X) (x : X) → Contains xs x → Contains (y ∷ xs) x
  Contains-there y xs x member = (suc member.0, omega (arith, member.1), member.2)

  Contains-none : (x : X) → Contains [] x → {A : Type 0} → A
  Contains-none x member = absurd (omega (arith, member.1))

  pub AllPairs-head : (L : X → X → Type 0) (x : X) (xs : List X) (y : X) → AllPairs L (x ∷ xs) → Contains xs y → L x y
  AllPairs-head L x xs y pairs member = subst (λ z. L x z) member.2 (pairs 0 (suc member.0) y (omega arith) (omega (arith, member.1)))

  pub AllPairs-tail : (L : X → X → Type 0) (x : X) (xs : List X) → AllPairs L (x ∷ xs) → AllPairs L xs
  AllPairs-tail L x xs pairs i j d l h = pairs (suc i) (suc j) d (omega arith) (omega arith)

  module _ (P : X → Type 0) (L : X → X → Type 0) (asymmetric : (x y : X) → P x → P y → L x y → L y x → ⊥) where
    -- the members of the one rest are members of the other
    rests : (a : X) (xs ys : List X) → All P (a ∷ xs) → AllPairs L (a ∷ xs) → ((x : X) → Contains (a ∷ xs) x → Contains (a ∷ ys) x) → (x : X) → Contains xs x → Contains ys x
    rests a xs ys has pairs within x member =
        elim (Contains-cons_cases a ys x (within x (Contains-there a xs x member))) [
          | inr there ↦ there
          | inl e ↦
              let twice : L a a = subst (λ z. L a z) (sym e) (AllPairs-head L a xs x pairs member) in
              let here = All-head P a xs has in
              absurd (asymmetric a a here here twice twice)
        ]

    pub same_from_members : (xs ys : List X) → All P xs → All P ys → AllPairs L xs → AllPairs L ys → ((x : X) → Contains xs x → Contains ys x) → ((x : X) → Contains ys x → Contains xs x) → xs ≡ ys
    same_from_members [] [] has_x has_y pairs_x pairs_y forth back = refl
    same_from_members [] (y ∷ ys) has_x has_y pairs_x pairs_y forth back = Contains-none y (back y (Contains-here y ys))
    same_from_members (x ∷ xs) [] has_x has_y pairs_x pairs_y forth back = Contains-none x (forth x (Contains-here x xs))
    same_from_members (x ∷ xs) (y ∷ ys) has_x has_y pairs_x pairs_y forth back =
        let heads : x ≡ y =
        elim (Contains-cons_cases y ys x (forth x (Contains-here x xs))) [
          | inl e ↦ sym e
          | inr x_later ↦
              elim (Contains-cons_cases x xs y (back y (Contains-here y ys))) [
                | inl e ↦ e
                | inr y_later ↦ absurd (asymmetric x y (All-head P x xs has_x) (All-head P y ys has_y) (AllPairs-head L x xs y pairs_x y_later) (AllPairs-head L y ys x pairs_y x_later))
              ]
        ] in
        let forth' : (z : X) → Contains (x ∷ xs) z → Contains (x ∷ ys) z = subst (λ h. (z : X) → Contains (x ∷ xs) z → Contains (h ∷ ys) z) (sym heads) forth in
        let back' : (z : X) → Contains (y ∷ ys) z → Contains (y ∷ xs) z = subst (λ h. (z : X) → Contains (y ∷ ys) z → Contains (h ∷ xs) z) heads back in
        let tails = same_from_members xs ys (All-tail P x xs has_x) (All-tail P y ys has_y) (AllPairs-tail L x xs pairs_x) (AllPairs-tail L y ys pairs_y)
        (rests x xs ys has_x pairs_x forth') (rests y ys xs has_y pairs_y back') in
        λ i. heads i ∷ tails i
