-- Names among names.
use Rattle.std.proofs.Common.{◌≡◌, ◌<◌, ℕ, Bool, true, false, ◌||◌, Option, Some, None, List, [], ◌∷◌, length, get_or, zero, suc, arith, refl}
use Rattle.std.specs.Option.{MatchOption}
use Rattle.std.specs.Str.{bytes_eq}
use Rattle.text_tokens.specs.Names.{is_among}

pub MatchOption_weaker : {X : Type 0} (o : Option X) (P P' : Type 0) (Q Q' : X → Type 0) → (P → P') → ((x : X) → Q x → Q' x) → MatchOption o P Q → MatchOption o P' Q'
MatchOption_weaker None P P' Q Q' f g h = f h
MatchOption_weaker (Some x) P P' Q Q' f g h = g x h

-- none of the names has these bytes
pub not_among : (names : List (List ℕ)) (w : List ℕ) → ((k : ℕ) → k < length names → bytes_eq (get_or names k []) w ≡ false) → is_among names w ≡ false
not_among [] w h = refl
not_among (n ∷ names) w h =
    let first : bytes_eq n w ≡ false = h 0 (omega arith) in
    let rest : is_among names w ≡ false = not_among names w (λ k lt. h (suc k) (omega arith)) in
    rw (first, rest) refl

or_true : (b : Bool) → (b || true) ≡ true
or_true true = refl
or_true false = refl

-- one of them has
pub among_at : (names : List (List ℕ)) (w : List ℕ) (k : ℕ) → k < length names → bytes_eq (get_or names k []) w ≡ true → is_among names w ≡ true
among_at [] w k lt h = absurd (omega arith)
among_at (n ∷ names) w zero lt h = rw h refl
among_at (n ∷ names) w (suc k) lt h = rw (among_at names w k (omega arith) h) (or_true (bytes_eq n w))
