-- The sectors that are zero: their integrals vanish, are left out of every equation, and print as 0.
-- The zero sectors are named by the user, as in Kira (arXiv:1705.05610) after its own search for them.
use Rattle.std.specs.Prelude.{ℕ, Bool, ◌==◌, ◌||◌, List, bit_and}
use Rattle.std.specs.List.{list_any}

-- every bit of the sector is a bit of the other
abbrev pub is_subsector : ℕ → ℕ → Bool
is_subsector sector other = bit_and sector other == sector

-- a sector is zero where it is 0 or a subsector of one that is listed
abbrev pub is_zero_sector : List ℕ → ℕ → Bool
is_zero_sector listed sector = (sector == 0) || list_any (λ other. is_subsector sector other) listed
