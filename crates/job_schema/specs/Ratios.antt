-- The numbers of a numeric point: the prime, and ratios of whole numbers. The project's own.
use Rattle.std.specs.Prelude.{ℕ, ◌+◌, ◌-◌, ◌^◌, ◌%◌, Bool, true, false, if◌then◌else◌, ◌&&◌, ◌==◌, nat_le, nat_lt, List, [], ◌∷◌, length, take, drop, Option, Some, None, Ok}
use Rattle.std.specs.List.{prefix_len}
use Rattle.yaml_text.specs.Lines.{Bytes}
use Rattle.text_tokens.specs.Tokens.{is_digit}
use Rattle.input_schema.specs.declared.faults.File.{File}
use Rattle.input_schema.specs.declared.faults.InputKind.TheVariants.{BadNumber, BadModulus}
use Rattle.input_schema.specs.Readings.{Outcome, refuse, ◌>>=◌}
use Rattle.input_schema.specs.Numbers.{is_negative, is_number, unsigned, written_number}
use Rattle.job_schema.specs.declared.ratios.Ratio.{Ratio}
use Rattle.job_schema.specs.declared.ratios.Divisor.{Divisor}

-- how many digits stand at the front of a text
abbrev pub front : Bytes → ℕ
front text = prefix_len is_digit text

-- nothing, or a slash and digits
abbrev pub is_division : Bytes → Bool
is_division [] = true
is_division (b ∷ bs) = b == 47 && is_number bs

-- digits, and then nothing or a slash and digits
abbrev pub is_ratio : Bytes → Bool
is_ratio body = nat_le 1 (front body) && is_division (drop (front body) body)

-- the divisor, where there is one, with the offset of its slash
abbrev pub divisor : File → ℕ → ℕ → Bytes → Outcome (Option Divisor)
divisor file line at [] = Ok None
divisor file line at (b ∷ bs) = written_number file line bs >>= (λ n. Ok (Some (record { at = at; number = n })))

-- what stands behind a sign, whose offset in the text is given
abbrev pub ratio_in : File → ℕ → Bool → ℕ → Bytes → Outcome Ratio
ratio_in file line negative offset body =
    if is_ratio body
    then (written_number file line (take (front body) body) >>= (λ n.
    divisor file line (offset + front body) (drop (front body) body) >>= (λ d.
    Ok (record { is_negative = negative; numerator = n; divisor = d }))))
    else refuse file line BadNumber

-- A ratio: a minus sign or nothing, digits, and then nothing or a slash and digits. Of a text of another form
-- this is the fault; a part that is wider than 128 bits comes after it.
abbrev pub ratio : File → ℕ → Bytes → Outcome Ratio
ratio file line text = ratio_in file line (is_negative text) (if is_negative text then 1 else 0) (unsigned text)

-- an odd number from 3 on and below 2^63
abbrev pub is_modulus : ℕ → Bool
is_modulus p = p % 2 == 1 && (nat_le 3 p && nat_lt p (2 ^ 63))

abbrev pub modulus : File → ℕ → ℕ → Outcome ℕ
modulus file line p = if is_modulus p then Ok p else refuse file line BadModulus

-- the prime: digits alone, no wider than 128 bits, and then a number that may serve
abbrev pub prime : File → ℕ → Bytes → Outcome ℕ
prime file line text = written_number file line text >>= modulus file line
