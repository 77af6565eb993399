-- The tokens of a printed momentum.
use Rattle.std.proofs.Common.{◌≡◌, ◌<◌, ◌+◌, ◌*◌, ◌/◌, ◌%◌, ℕ, zero, suc, true, false, leb, ◌&&◌, List, [], ◌∷◌, ◌++◌, map, length, arith, refl, sym, ap, ◌∙◌, append_assoc, append-nil}
use Rattle.std.specs.Prelude.{ℤ, pos, negsuc, fold}
use Rattle.std.specs.List.{AllByRecursion, list_all}
use Rattle.std.specs.Int.Digits.{digits_of, number_from_digits_after}
use Rattle.std.proofs.lemmas.Int.Digits.{all_below_base_digits_of, digits_of_step, number_digits_of}
use Rattle.std.proofs.lemmas.Bool.{le-leb, and_from, and_parts}
use Rattle.text_tokens.specs.Tokens.{Token, Sign, plus_sign, minus_sign, sign_token, number, name, plus, minus, star, is_digit, is_letter, is_name_byte, nothing, in_number, in_name, tokens_from, with_digit, number_of}
use Rattle.text_tokens.specs.Faults.{tokens_in}
use Rattle.text_tokens.specs.Names.{IsName}
use Rattle.momentum_sums.specs.Printed.{decimal, printed, AreDistinctNames}
use Rattle.text_tokens.proofs.TokenLemmas.{number_begins, number_more, number_stops, name_begins, name_more, name_stops, name_ends, mark}

-- the sign and the size of a coefficient
abbrev pub sign_of : ℤ → Sign
sign_of (pos n) = plus_sign
sign_of (negsuc n) = minus_sign

abbrev pub size_of : ℤ → ℕ
size_of (pos n) = n
size_of (negsuc n) = n + 1

-- the tokens that a momentum is printed as
abbrev pub printed_tokens : List (List ℕ) → List ℤ → List Token
printed_tokens [] cs = []
printed_tokens (w ∷ names) [] = []
printed_tokens (w ∷ names) (c ∷ cs) = sign_token (sign_of c) ∷ number (decimal (size_of c)) ∷ star ∷ name w ∷ printed_tokens names cs

-- the digits of a number

digit_of : (d : ℕ) → d < 10 → is_digit (48 + d) ≡ true
digit_of d h = and_from (leb 48 (48 + d)) (leb (48 + d) 57) (le-leb 48 (48 + d) (omega arith)) (le-leb (48 + d) 57 (omega arith))

digits_are : (ds : List ℕ) → AllByRecursion (λ d. d < 10) ds → list_all is_digit (map (λ d. 48 + d) ds) ≡ true
digits_are [] h = refl
digits_are (d ∷ ds) h = and_from (is_digit (48 + d)) (list_all is_digit (map (λ q. 48 + q) ds)) (digit_of d h.0) (digits_are ds h.1)

some_digit : (xs : List ℕ) (x : ℕ) (ds : List ℕ) → ds ≡ xs ++ x ∷ [] → list_all is_digit (map (λ d. 48 + d) ds) ≡ true →
    (b : ℕ) × (bs : List ℕ) × (map (λ d. 48 + d) ds ≡ b ∷ bs)
some_digit [] x ds e h = (48 + x, [], ap (map (λ d. 48 + d)) e)
some_digit (y ∷ xs) x ds e h = (48 + y, map (λ d. 48 + d) (xs ++ x ∷ []), ap (map (λ d. 48 + d)) e)

-- a decimal has at least one digit, and digits alone
pub record IsDecimal (ds : List ℕ) : Type 0 where
  pub head : ℕ
  pub tail : List ℕ
  pub is : ds ≡ head ∷ tail
  pub digits : list_all is_digit ds ≡ true

decimal_is : (n : ℕ) → IsDecimal (decimal n)
decimal_is zero = record { head = 48; tail = []; is = refl; digits = refl }
decimal_is (suc n) =
    let digits : list_all is_digit (map (λ d. 48 + d) (digits_of 10 (suc n))) ≡ true =
    digits_are (digits_of 10 (suc n)) (all_below_base_digits_of 10 (suc n) (omega arith)) in
    let some = some_digit (digits_of 10 (suc n / 10)) (suc n % 10) (digits_of 10 (suc n)) (digits_of_step 10 (suc n) (omega arith) (omega arith)) digits in
    record { head = some.0; tail = some.1; is = some.2; digits = digits }

value_after : (n : ℕ) (ds : List ℕ) → fold with_digit n (map (λ d. 48 + d) ds) ≡ number_from_digits_after 10 n ds
value_after n [] = refl
value_after n (d ∷ ds) =
    let here : with_digit n (48 + d) ≡ n * 10 + d = omega arith in
    ap (λ m. fold with_digit m (map (λ q. 48 + q) ds)) here ∙ value_after (n * 10 + d) ds

pub number_of-decimal : (n : ℕ) → number_of (decimal n) ≡ n
number_of-decimal zero = refl
number_of-decimal (suc n) = value_after 0 (digits_of 10 (suc n)) ∙ number_digits_of 10 (suc n) (omega arith)

-- a run of digits before another byte
number_run : (start at : ℕ) (ds xs : List ℕ) (b : ℕ) (rest : List ℕ) → list_all is_digit xs ≡ true → is_digit b ≡ false →
    (k : ℕ) × (tokens_in (tokens_from (in_number start ds) at (xs ++ b ∷ rest)) ≡ number (ds ++ xs) ∷ tokens_in (tokens_from nothing k (b ∷ rest)))
number_run start at ds [] b rest h n =
    (at, ap tokens_in (number_stops start at b ds rest n) ∙ ap (λ q. number q ∷ tokens_in (tokens_from nothing at (b ∷ rest))) (sym (append-nil ds)))
number_run start at ds (x ∷ xs) b rest h n =
    let parts = and_parts (is_digit x) (list_all is_digit xs) h in
    let more = number_run start (at + 1) (ds ++ x ∷ []) xs b rest parts.1 n in (
      more.0,
      ap tokens_in (number_more start at x ds (xs ++ b ∷ rest) parts.0) ∙ more.1
          ∙ ap (λ q. number q ∷ tokens_in (tokens_from nothing more.0 (b ∷ rest))) (append_assoc ds (x ∷ []) xs),
    )

-- what stands behind a name: nothing, or a byte that no name has
pub data Stops : List ℕ → Type 0 where
  at_end : Stops []
  at_byte : (b : ℕ) (bs : List ℕ) → is_name_byte b ≡ false → Stops (b ∷ bs)

name_run : (start at : ℕ) (ds xs rest : List ℕ) → list_all is_name_byte xs ≡ true → Stops rest →
    (k : ℕ) × (tokens_in (tokens_from (in_name start ds) at (xs ++ rest)) ≡ name (ds ++ xs) ∷ tokens_in (tokens_from nothing k rest))
name_run start at ds [] [] h at_end =
    (at, ap tokens_in (name_ends start at ds) ∙ ap (λ q. name q ∷ tokens_in (tokens_from nothing at [])) (sym (append-nil ds)))
name_run start at ds [] (b ∷ rest) h (at_byte c cs n) =
    (at, ap tokens_in (name_stops start at b ds rest n) ∙ ap (λ q. name q ∷ tokens_in (tokens_from nothing at (b ∷ rest))) (sym (append-nil ds)))
name_run start at ds (x ∷ xs) rest h s =
    let parts = and_parts (is_name_byte x) (list_all is_name_byte xs) h in
    let more = name_run start (at + 1) (ds ++ x ∷ []) xs rest parts.1 s in (
      more.0,
      ap tokens_in (name_more start at x ds (xs ++ rest) parts.0) ∙ more.1
          ∙ ap (λ q. name q ∷ tokens_in (tokens_from nothing more.0 rest)) (append_assoc ds (x ∷ []) xs),
    )

-- a name and what stands behind it
name_term : (at : ℕ) (w rest : List ℕ) → IsName w → Stops rest →
    (k : ℕ) × (tokens_in (tokens_from nothing at (w ++ rest)) ≡ name w ∷ tokens_in (tokens_from nothing k rest))
name_term at [] rest is s = absurd (cc)
name_term at (b ∷ bs) rest is s =
    let all = and_parts (leb 1 (length (b ∷ bs)) && leb (length (b ∷ bs)) 32 && is_letter b) (list_all is_name_byte (b ∷ bs)) is in
    let front = and_parts (leb 1 (length (b ∷ bs)) && leb (length (b ∷ bs)) 32) (is_letter b) all.0 in
    let bytes = and_parts (is_name_byte b) (list_all is_name_byte bs) all.1 in
    let more = name_run at (at + 1) (b ∷ []) bs rest bytes.1 s in
    (more.0, ap tokens_in (name_begins at b (bs ++ rest) front.1) ∙ more.1)

-- a factor, its star, its name and what stands behind them
factor_term : (at n : ℕ) (w rest : List ℕ) → IsName w → Stops rest →
    (k : ℕ) × (tokens_in (tokens_from nothing at ((decimal n ++ 42 ∷ w) ++ rest)) ≡ number (decimal n) ∷ star ∷ name w ∷ tokens_in (tokens_from nothing k rest))
factor_term at n w rest is s =
    let d = decimal_is n in
    let parts = and_parts (is_digit d.head) (list_all is_digit d.tail) (ap (list_all is_digit) (sym d.is) ∙ d.digits) in
    let run = number_run at (at + 1) (d.head ∷ []) d.tail 42 (w ++ rest) parts.1 refl in
    let last = name_term (run.0 + 1) w rest is s in
    let text : (decimal n ++ 42 ∷ w) ++ rest ≡ d.head ∷ (d.tail ++ 42 ∷ (w ++ rest)) =
    append_assoc (decimal n) (42 ∷ w) rest ∙ ap (λ q. q ++ 42 ∷ (w ++ rest)) d.is in (
      last.0,
      ap (λ q. tokens_in (tokens_from nothing at q)) text
          ∙ ap tokens_in (number_begins at d.head (d.tail ++ 42 ∷ (w ++ rest)) parts.0)
          ∙ run.1
          ∙ ap (λ q. number q ∷ tokens_in (tokens_from nothing run.0 (42 ∷ (w ++ rest)))) (sym d.is)
          ∙ ap (λ q. number (decimal n) ∷ tokens_in q) (mark run.0 42 (w ++ rest) refl refl (λ e. omega arith))
          ∙ ap (λ q. number (decimal n) ∷ star ∷ q) last.1,
    )

stops_at : (names : List (List ℕ)) (cs : List ℤ) → Stops (printed names cs)
stops_at [] cs = at_end
stops_at (w ∷ names) [] = at_end
stops_at (w ∷ names) (pos n ∷ cs) = at_byte 43 _ refl
stops_at (w ∷ names) (negsuc n ∷ cs) = at_byte 45 _ refl

pub printed_run : (names : List (List ℕ)) (cs : List ℤ) (at : ℕ) → AreDistinctNames names → tokens_in (tokens_from nothing at (printed names cs)) ≡ printed_tokens names cs
unfolding tokens_from
printed_run [] cs at are = refl
printed_run (w ∷ names) [] at are = refl
printed_run (w ∷ names) (pos n ∷ cs) at are =
    let term = factor_term (at + 1) n w (printed names cs) are.0 (stops_at names cs) in
    ap tokens_in (mark at 43 ((decimal n ++ 42 ∷ w) ++ printed names cs) refl refl (λ e. omega arith))
    ∙ ap (λ q. plus ∷ q) term.1
    ∙ ap (λ q. plus ∷ number (decimal n) ∷ star ∷ name w ∷ q) (printed_run names cs term.0 are.2)
printed_run (w ∷ names) (negsuc n ∷ cs) at are =
    let term = factor_term (at + 1) (n + 1) w (printed names cs) are.0 (stops_at names cs) in
    ap tokens_in (mark at 45 ((decimal (n + 1) ++ 42 ∷ w) ++ printed names cs) refl refl (λ e. omega arith))
    ∙ ap (λ q. minus ∷ q) term.1
    ∙ ap (λ q. minus ∷ number (decimal (n + 1)) ∷ star ∷ name w ∷ q) (printed_run names cs term.0 are.2)
