-- What a folder of files holds, and what a load tells of it. The project's own.
use Rattle.std.specs.Prelude.{◌≡◌, ⊤, ℕ, List, Option, None, MatchOption, IsSome, IsSomeAnd, take}
use Rattle.std.specs.Ordering.{nat_cmp}
use Rattle.std.specs.Cmp.Lexicographic.{slice_cmp}
use Rattle.std.specs.FinMap as map
use Rattle.kira_outside.specs.Faults.{Rose}

-- the bytes of each file, by the bytes of its name
abbrev pub Held : Type 0
Held = map.FinMap (slice_cmp nat_cmp) (List ℕ)

-- where the names are told, the file of this name is held, and these are its first `most` bytes
abbrev pub LoadGives : Option Held → List ℕ → ℕ → List ℕ → Type 0
LoadGives held name most bytes = MatchOption held ⊤ (λ files. IsSomeAnd (map.get files name) (λ whole. bytes ≡ take most whole))

-- where the names are told, a file of this name is held
abbrev pub HoldsName : Option Held → List ℕ → Type 0
HoldsName held name = MatchOption held ⊤ (λ files. IsSome (map.get files name))

-- the file isn't held and no fault was counted, where the names are told; where they aren't, one was
abbrev pub LacksName : ℕ → ℕ → Option Held → List ℕ → Type 0
LacksName before now held name = MatchOption held (Rose before now) (λ files. (map.get files name ≡ None) × (now ≡ before))
