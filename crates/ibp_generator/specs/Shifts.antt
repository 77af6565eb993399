-- Index lists with one index changed. Indices are numbered from 1. The project's own notation for what
-- every paper on integration by parts writes as a + e_j - e_k.
use Rattle.std.specs.Prelude.{ℕ, zero, suc, ◌≤◌, ℤ, pos, negsuc, ◌+ℤ◌, List, slice_index_or, slice_set}
use Rattle.integral_index.specs.Integral.{positive_part, negative_part}

-- an index of a seed: from -100 to 100
abbrev pub IsSeedIndex : ℤ → Type 0
IsSeedIndex a = (positive_part a ≤ 100) × (negative_part a ≤ 100)

-- what such an index may be after 1 was added to one of them: from -100 to 101
abbrev pub IsRaisedIndex : ℤ → Type 0
IsRaisedIndex a = (positive_part a ≤ 101) × (negative_part a ≤ 100)

-- the index with this number, and 0 where there is none
abbrev pub index_at : List ℤ → ℕ → ℤ
index_at a zero = pos 0
index_at a (suc j) = slice_index_or a j (pos 0)

-- the indices with a number added to the one with this number
abbrev pub shifted : List ℤ → ℕ → ℤ → List ℤ
shifted a zero by = a
shifted a (suc j) by = slice_set a j (slice_index_or a j (pos 0) +ℤ by)

-- a + e_j
abbrev pub raised : List ℤ → ℕ → List ℤ
raised a j = shifted a j (pos 1)

-- a - e_k
abbrev pub lowered : List ℤ → ℕ → List ℤ
lowered a k = shifted a k (negsuc 0)
