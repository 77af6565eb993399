-- Which equations are written for seeds, and in which order.
-- Source: Kira, arXiv:1705.05610; that the loop momenta are the outer ones is the project's own.
use Rattle.std.specs.Prelude.{ℕ, List, [], ◌++◌, map, unwrap_or}
use Rattle.std.specs.List.{flat_map, range_with_len, slice_get}
use Rattle.std.specs.Option.{option_map_or}
use Rattle.integral_index.specs.Integral.{Integral}
use Rattle.propagators.specs.Basis.{Basis, momenta_of}

-- what an equation comes from: a derivative by a loop momentum, times a momentum, both by their numbers; or a
-- symmetry σ, as the list σ(1) .. σ(N)
pub data Origin : Type 0 where
  Derivative : (loop_number momentum_number : ℕ) → Origin
  Symmetry : (places : List ℕ) → Origin

-- the place of an equation: its seed, and what it comes from
pub record Place : Type 0 where
  pub seed : Integral
  pub origin : Origin

-- the numbers from 1 to n
abbrev pub numbers_to : ℕ → List ℕ
numbers_to n = range_with_len 1 n

-- for each loop momentum in order, each momentum in order
abbrev pub derivatives_of : Basis → List Origin
derivatives_of basis = flat_map (λ i. map (λ q. Derivative i q) (numbers_to (momenta_of basis))) (numbers_to basis.loops)

-- first the derivatives, and then the symmetries in their order
abbrev pub origins_of : Basis → List (List ℕ) → List Origin
origins_of basis symmetries = derivatives_of basis ++ map Symmetry symmetries

-- those of a family, by the basis and the symmetries that stand at its place
abbrev pub origins_at : List Basis → List (List (List ℕ)) → ℕ → List Origin
origins_at bases symmetries family =
    option_map_or (λ basis. origins_of basis (unwrap_or (slice_get symmetries family) [])) (slice_get bases family) []

-- the place of a seed
abbrev pub place_of : Integral → Origin → Place
place_of seed origin = record { seed = seed; origin = origin }

-- for each seed in order, each origin of its family
abbrev pub places : List Basis → List (List (List ℕ)) → List Integral → List Place
places bases symmetries seeds = flat_map (λ seed. map (place_of seed) (origins_at bases symmetries seed.family)) seeds
