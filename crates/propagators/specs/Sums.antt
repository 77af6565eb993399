-- Finite sums, numbered from 1 as momenta and denominators are. The project's own.
use Rattle.std.specs.Prelude.{ℕ, zero, suc, ◌+◌, List, slice_index_or}

-- f 1 + .. + f n
abbrev pub sum_to : ℕ → (ℕ → ℕ) → ℕ
sum_to zero f = 0
sum_to (suc n) f = sum_to n f + f (suc n)

-- the entry with this number, from 1, and 0 where there is none
abbrev pub entry : List ℕ → ℕ → ℕ
entry xs zero = 0
entry xs (suc n) = slice_index_or xs n 0
