-- The counts of faults, by which a clause can say that a call didn't give up by itself. The project's own.
use Rattle.std.specs.Prelude.{◌≡◌, ℕ, ◌+◌, ◌-◌, ◌^◌, min}

-- the count after one more fault; at the last value of its type it stays
abbrev pub one_more : ℕ → ℕ
one_more count = min (count + 1) (2 ^ 64 - 1)

-- just one fault was counted between two moments
abbrev pub Rose : ℕ → ℕ → Type 0
Rose before now = now ≡ one_more before
