-- How a momentum is written: each coefficient with its sign, "*" and its name, as "+2*k1-1*k2". The
-- project's own.
use Rattle.std.specs.Prelude.{◌≡◌, ℕ, ◌+◌, ◌<◌, false, zero, suc, ℤ, pos, negsuc, List, [], ◌∷◌, ◌++◌, map, length}
use Rattle.std.specs.Int.Digits.{digits_of}
use Rattle.text_tokens.specs.Names.{IsName, is_among}
use Rattle.momentum_sums.specs.Momenta.{IsCoefficient, IsMomentum}

-- a number in decimal digits
abbrev pub decimal : ℕ → List ℕ
decimal zero = 48 ∷ []
decimal (suc n) = map (λ d. 48 + d) (digits_of 10 (suc n))

abbrev pub printed_coefficient : ℤ → List ℕ
printed_coefficient (pos n) = 43 ∷ decimal n
printed_coefficient (negsuc n) = 45 ∷ decimal (n + 1)

abbrev pub printed : List (List ℕ) → List ℤ → List ℕ
printed [] cs = []
printed (w ∷ names) [] = []
printed (w ∷ names) (c ∷ cs) = (printed_coefficient c ++ 42 ∷ w) ++ printed names cs

-- the names are names, and no two are equal
abbrev pub AreDistinctNames : List (List ℕ) → Type 0
AreDistinctNames [] = Unit {0}
AreDistinctNames (w ∷ names) = IsName w × (is_among names w ≡ false) × AreDistinctNames names

abbrev pub AreCoefficients : List ℤ → Type 0
AreCoefficients [] = Unit {0}
AreCoefficients (c ∷ cs) = IsCoefficient c × AreCoefficients cs

-- a momentum over at least one name reads back as itself
abbrev pub PrintedReadsBack : Type 0
PrintedReadsBack =
    (names : List (List ℕ)) (cs : List ℤ) → 0 < length names → length cs ≡ length names → AreDistinctNames names → AreCoefficients cs →
    IsMomentum names (printed names cs) cs
