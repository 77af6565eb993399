-- The number that digits write.
use Rattle.std.proofs.Common.{◌≡◌, ℕ, ◌≤◌, ◌<◌, ◌^◌, ◌+◌, List, [], ◌∷◌, drop, length, get_or, arith}
use Rattle.std.specs.Prelude.{fold}
use Rattle.std.proofs.lemmas.List.{at_drop_more}
use Rattle.text_tokens.specs.Tokens.{with_digit}

-- more digits make no smaller number
pub fold_at_least : (n : ℕ) (ds : List ℕ) → n ≤ fold with_digit n ds
fold_at_least n [] = omega arith
fold_at_least n (d ∷ ds) = let h : with_digit n d ≤ fold with_digit (with_digit n d) ds = fold_at_least (with_digit n d) ds in omega arith

pub too_wide : (n w i : ℕ) (ds : List ℕ) → i < length ds → fold with_digit n (drop i ds) ≡ w → (with_digit n (get_or ds i 0) < 2 ^ 128 → ⊥) → w < 2 ^ 128 → ⊥
too_wide n w i ds h e wide small =
    let step : fold with_digit n (drop i ds) ≡ fold with_digit (with_digit n (get_or ds i 0)) (drop (i + 1) ds) = at_drop_more (fold with_digit n) ds i 0 h in
    let least : with_digit n (get_or ds i 0) ≤ fold with_digit (with_digit n (get_or ds i 0)) (drop (i + 1) ds) = fold_at_least (with_digit n (get_or ds i 0)) (drop (i + 1) ds) in
    wide (omega arith)
