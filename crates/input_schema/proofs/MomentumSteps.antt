-- The sums of coefficients from a place on.
use Rattle.std.proofs.Common.{◌≡◌, ℕ, ◌+◌, ◌<◌, ◌≤◌, ℤ, ◌+ℤ◌, ◌*ℤ◌, pos, Bool, true, false, ◌&&◌, List, [], ◌∷◌, ◌++◌, drop, length, get_or, refl, sym, ap, ◌∙◌, append_assoc, append-nil}
use Rattle.std.specs.List.{list_all, All}
use Rattle.std.proofs.lemmas.List.Elements.{All-push}
use Rattle.momentum_sums.specs.Momenta.{IsCoefficient}
use Rattle.std.proofs.lemmas.List.{at_drop_more, at_drop_all}
use Rattle.std.proofs.lemmas.List.Folds.{list_all-append}
use Rattle.input_schema.specs.Momenta.{plus_times, is_small}

plus_times_more : (factor : ℤ) (cs is : List ℤ) (i : ℕ) → i < length cs → i < length is →
    plus_times factor (drop i cs) (drop i is) ≡ (get_or cs i (pos 0) +ℤ (factor *ℤ get_or is i (pos 0))) ∷ plus_times factor (drop (i + 1) cs) (drop (i + 1) is)
plus_times_more factor cs is i a b =
    let e = at_drop_more (λ (x : List ℤ). plus_times factor x (drop i is)) cs i (pos 0) a in
    let f = at_drop_more (λ (x : List ℤ). plus_times factor (get_or cs i (pos 0) ∷ drop (i + 1) cs) x) is i (pos 0) b in
    e ∙ f

-- one more sum was taken
pub one_more_sum : (factor sum : ℤ) (cs is sums whole : List ℤ) (i : ℕ) → i < length cs → i < length is →
    sum ≡ get_or cs i (pos 0) +ℤ (factor *ℤ get_or is i (pos 0)) → whole ≡ sums ++ plus_times factor (drop i cs) (drop i is) →
    whole ≡ (sums ++ sum ∷ []) ++ plus_times factor (drop (i + 1) cs) (drop (i + 1) is)
one_more_sum factor sum cs is sums whole i a b e h =
    h ∙ ap (λ x. sums ++ x) (plus_times_more factor cs is i a b ∙ ap (λ s. s ∷ plus_times factor (drop (i + 1) cs) (drop (i + 1) is)) (sym e)) ∙ sym (append_assoc sums (sum ∷ []) (plus_times factor (drop (i + 1) cs) (drop (i + 1) is)))

-- no sum is left
pub no_more_sums : (factor : ℤ) (cs is sums whole : List ℤ) (i : ℕ) → length cs ≤ i → whole ≡ sums ++ plus_times factor (drop i cs) (drop i is) → whole ≡ sums
no_more_sums factor cs is sums whole i a h =
    h ∙ ap (λ x. sums ++ x) (at_drop_all (λ (x : List ℤ). plus_times factor x (drop i is)) cs i a) ∙ append-nil sums

-- a sum that isn't small
pub large_sum : (factor : ℤ) (cs is sums whole : List ℤ) (i : ℕ) → i < length cs → i < length is →
    is_small (get_or cs i (pos 0) +ℤ (factor *ℤ get_or is i (pos 0))) ≡ false → whole ≡ sums ++ plus_times factor (drop i cs) (drop i is) →
    list_all is_small whole ≡ false
large_sum factor cs is sums whole i a b e h =
    ap (list_all is_small) (h ∙ ap (λ x. sums ++ x) (plus_times_more factor cs is i a b)) ∙ list_all-append is_small sums _ ∙ ap (λ t. list_all is_small sums && (t && list_all is_small (plus_times factor (drop (i + 1) cs) (drop (i + 1) is)))) e ∙ none (list_all is_small sums)
  where
    none : (t : Bool) → (t && false) ≡ false
    none true = refl
    none false = refl

-- one more small sum
pub one_more_small : (sums : List ℤ) (sum : ℤ) → list_all is_small sums ≡ true → is_small sum ≡ true → list_all is_small (sums ++ sum ∷ []) ≡ true
one_more_small sums sum h e = list_all-append is_small sums (sum ∷ []) ∙ ap (λ t. t && (is_small sum && true)) h ∙ ap (λ t. t && true) e

pub one_more_coefficient : (sums : List ℤ) (sum : ℤ) → All IsCoefficient sums → IsCoefficient sum → All IsCoefficient (sums ++ sum ∷ [])
one_more_coefficient sums sum h e = All-push IsCoefficient sums sum h e
