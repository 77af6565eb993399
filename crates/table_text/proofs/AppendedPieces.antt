-- A text to which a loop appends a piece for each element of a list.
use Rattle.std.proofs.Common.{◌≡◌, ℕ, ◌+◌, ◌<◌, ◌≤◌, List, [], ◌∷◌, ◌++◌, length, get_or, take, sym, ap, ◌∙◌, append_assoc}
use Rattle.std.proofs.lemmas.List.{take_more, take_all, append-nil}
use Rattle.std.specs.List.{flat_map, join_by}
use Rattle.std.proofs.lemmas.Grind.{flat_map-append}

-- one element more
pub flat_map-take_more : {X : Type 0} (f : X → List ℕ) (xs : List X) (i : ℕ) (x d : X) → i < length xs → x ≡ get_or xs i d → flat_map f (take (i + 1) xs) ≡ flat_map f (take i xs) ++ f x
flat_map-take_more f xs i x d below is =
    ap (flat_map f) (take_more xs i d below)
    ∙ flat_map-append f (take i xs) (get_or xs i d ∷ [])
    ∙ ap (λ piece. flat_map f (take i xs) ++ piece) (append-nil (f (get_or xs i d)) ∙ ap f (sym is))

-- the text after a turn of the loop
pub appended_more : {X : Type 0} (f : X → List ℕ) (xs : List X) (i : ℕ) (x d : X) (before now after : List ℕ) → i < length xs → x ≡ get_or xs i d → now ≡ before ++ flat_map f (take i xs) → after ≡ now ++ f x → after ≡ before ++ flat_map f (take (i + 1) xs)
appended_more f xs i x d before now after below is was then =
    then ∙ ap (λ text. text ++ f x) was ∙ append_assoc before _ (f x) ∙ ap (λ piece. before ++ piece) (sym (flat_map-take_more f xs i x d below is))

-- the text after the loop
pub all_appended : {X : Type 0} (f : X → List ℕ) (xs : List X) (i : ℕ) (before now : List ℕ) → length xs ≤ i → now ≡ before ++ flat_map f (take i xs) → now ≡ before ++ flat_map f xs
all_appended f xs i before now past was = was ∙ ap (λ front. before ++ flat_map f front) (take_all i xs past)

-- pieces with a separator, the first of which was there before
pub joined : {X : Type 0} (f : X → List ℕ) (separator : List ℕ) (first : X) (rest : List X) (before start now : List ℕ) → start ≡ before ++ f first → now ≡ start ++ flat_map (λ x. separator ++ f x) rest → now ≡ before ++ join_by f separator (first ∷ rest)
joined f separator first rest before start now begun is = is ∙ ap (λ text. text ++ flat_map (λ x. separator ++ f x) rest) begun ∙ append_assoc before (f first) _
