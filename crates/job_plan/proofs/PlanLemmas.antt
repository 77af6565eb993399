-- Lists of what the families have, place by place.
use Rattle.std.proofs.Common.{◌≡◌, ℕ, ◌+◌, ◌<◌, ◌≤◌, List, [], ◌∷◌, ◌++◌, All, take, length, get_or, ap, sym, ◌∙◌, subst}
use Rattle.std.specs.List.{AllZip}
use Rattle.std.proofs.lemmas.List.{take_more, take_all}
use Rattle.std.proofs.lemmas.List.Elements.{All-nil, All-cons}
use Rattle.propagators.specs.Basis.{Basis}
use Rattle.family_schema.specs.declared.content.Family.{Family}
use Rattle.job_point.specs.Point.{IsBasisOf}

AllZip-push : {A B : Type 0} (R : A → B → Type 0) (xs : List A) (ys : List B) (x : A) (y : B) → AllZip R xs ys → R x y → AllZip R (xs ++ x ∷ []) (ys ++ y ∷ [])
AllZip-push R [] [] x y h one = (one, h)
AllZip-push R [] (b ∷ ys) x y h one = absurd h
AllZip-push R (a ∷ xs) [] x y h one = absurd h
AllZip-push R (a ∷ xs) (b ∷ ys) x y h one = (h.0, AllZip-push R xs ys x y h.1 one)

-- one more item on both sides
pub AllZip-more : {A B : Type 0} (R : A → B → Type 0) (xs : List A) (ys : List B) (place : ℕ) (x : A) (y : B) →
    place < length xs → x ≡ get_or xs place x → AllZip R (take place xs) ys → R x y → AllZip R (take (place + 1) xs) (ys ++ y ∷ [])
AllZip-more {A} {B} R xs ys place x y low same h one =
    let e : take (place + 1) xs ≡ take place xs ++ x ∷ [] = take_more xs place x low ∙ ap (λ a. take place xs ++ a ∷ []) (sym same) in
    subst (λ (zs : List A). AllZip R zs (ys ++ y ∷ [])) (sym e) (AllZip-push R (take place xs) ys x y h one)

-- all of them
pub AllZip-whole : {A B : Type 0} (R : A → B → Type 0) (xs : List A) (ys : List B) (place : ℕ) → length xs ≤ place → AllZip R (take place xs) ys → AllZip R xs ys
AllZip-whole {A} {B} R xs ys place all h = subst (λ (zs : List A). AllZip R zs ys) (take_all place xs all) h

-- the bases of the families are at the modulus
pub at_modulus : (p externals : ℕ) (families : List Family) (bases : List Basis) → AllZip (IsBasisOf p externals) families bases → All (λ basis. basis.point.modulus ≡ p) bases
at_modulus p externals [] [] h = All-nil _
at_modulus p externals [] (basis ∷ bases) h = absurd h
at_modulus p externals (family ∷ families) [] h = absurd h
at_modulus p externals (family ∷ families) (basis ∷ bases) h = All-cons (λ (b : Basis). b.point.modulus ≡ p) basis bases h.0.modulus (at_modulus p externals families bases h.1)
