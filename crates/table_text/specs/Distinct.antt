-- Lists of integrals that ascend, each once.
use Rattle.std.specs.Prelude.{◌≡◌, ◌-◌, ◌<◌, ◌⊎◌, List, [], ◌∷◌, ◌++◌, length, slice_index_or}
use Rattle.std.specs.declared.cmp.Ordering.TheVariants.{Less}
use Rattle.integral_index.specs.declared.Order.{Order}
use Rattle.integral_index.specs.Integral.{Integral}
use Rattle.integral_index.specs.Order.{compare}

abbrev pub IsLess : Order → Integral → Integral → Type 0
IsLess order x y = compare order x y ≡ Less

-- x is the last of the list
abbrev pub IsLast : List Integral → Integral → Type 0
IsLast xs x = (0 < length xs) × (slice_index_or xs (length xs - 1) x ≡ x)

-- the list with x at its end: as it was where x was the last, and else with x behind it
abbrev pub IsPushedOnce : List Integral → Integral → List Integral → Type 0
IsPushedOnce xs x ys = (IsLast xs x × (ys ≡ xs)) ⊎ ((¬ (IsLast xs x)) × (ys ≡ xs ++ x ∷ []))
