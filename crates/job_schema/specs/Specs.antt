-- What a job names: items of topologies and sectors, and the specs that they stand for. The project's own;
-- the keys follow Kira, arXiv:1705.05610.
use Rattle.std.specs.Prelude.{ℕ, ◌*◌, ◌^◌, ◌-◌, Bool, true, false, if◌then◌else◌, nat_le, nat_lt, List, [], ◌∷◌, map, length, sum_by, slice_index_or, codes, Option, Some, None, Ok}
use Rattle.std.specs.List.{list_all, list_any, flat_map}
use Rattle.yaml_text.specs.declared.tree.Tree.{Tree}
use Rattle.yaml_text.specs.declared.tree.Pair.{Pair}
use Rattle.yaml_text.specs.Lines.{Bytes}
use Rattle.integral_index.specs.ZeroSectors.{is_subsector}
use Rattle.seed_sets.specs.declared.Spec.{Spec}
use Rattle.input_schema.specs.declared.faults.File.TheVariants.{Jobs}
use Rattle.input_schema.specs.declared.faults.InputKind.TheVariants.{OutOfRange, SectorOutside}
use Rattle.input_schema.specs.Readings.{Outcome, refuse, ◌>>=◌, each}
use Rattle.input_schema.specs.Nodes.{line_of, items}
use Rattle.input_schema.specs.Maps.{Key, fields, needed, value_of}
use Rattle.input_schema.specs.Names.{reference}
use Rattle.input_schema.specs.Numbers.{wide_number, number}
use Rattle.job_schema.specs.declared.frames.Frame.{Frame}
use Rattle.job_schema.specs.declared.groups.Group.{Group}
use Rattle.job_schema.specs.declared.groups.Bounds.{Bounds}

-- more items than any list can have
abbrev pub no_limit : ℕ
no_limit = 2 ^ 64 - 1

-- ---- the parts of an item

-- the places of one family or more, by their names
abbrev pub topologies : List Bytes → Tree → Outcome (List ℕ)
topologies names node = items Jobs node 1 no_limit >>= each (λ item. reference Jobs item names) []

-- what is known of the family at this place, and nothing behind the last
abbrev pub frame_at : List Frame → ℕ → Frame
frame_at frames family = slice_index_or frames family (record { width = 0; top_level = [] })

-- each of these families has denominators for each bit of the sector
abbrev pub fits : List Frame → List ℕ → ℕ → Bool
fits frames families sector = list_all (λ f. nat_lt sector (2 ^ (frame_at frames f).width)) families

-- in each of these families the sector is a subset of a top level sector
abbrev pub is_covered : List Frame → List ℕ → ℕ → Bool
is_covered frames families sector =
    list_all (λ f. list_any (λ top. is_subsector sector top) (frame_at frames f).top_level) families

abbrev pub sector_at : List Frame → List ℕ → ℕ → ℕ → Outcome ℕ
sector_at frames families line n =
    if fits frames families n
    then (if is_covered frames families n then Ok n else refuse Jobs line SectorOutside)
    else refuse Jobs line OutOfRange

-- a sector of each of these families, within a top level sector of each
abbrev pub sector : List Frame → List ℕ → Tree → Outcome ℕ
sector frames families node = wide_number Jobs node >>= sector_at frames families (line_of node)

abbrev pub sectors : List Frame → List ℕ → Tree → Outcome (List ℕ)
sectors frames families node = items Jobs node 1 no_limit >>= each (sector frames families) []

-- a bound, from 0 to 100
abbrev pub bound : Tree → Outcome ℕ
bound node = number Jobs node 0 100

abbrev pub optional_bound : Option Tree → Outcome (Option ℕ)
optional_bound None = Ok None
optional_bound (Some node) = bound node >>= (λ n. Ok (Some n))

-- ---- an item

abbrev pub group_keys : List Key
group_keys =
    record { name = codes "topologies"; is_needed = true }
    ∷ record { name = codes "sectors"; is_needed = true }
    ∷ record { name = codes "r"; is_needed = true }
    ∷ record { name = codes "s"; is_needed = true }
    ∷ record { name = codes "d"; is_needed = false }
    ∷ []

-- the bounds of an item: the most of r and of s, and of the dots where they have a bound
abbrev pub needed_bound : ℕ → List Pair → Bytes → Outcome ℕ
needed_bound line pairs key = needed Jobs line pairs key >>= bound

abbrev pub bounds : ℕ → List Pair → Outcome Bounds
bounds line pairs =
    needed_bound line pairs (codes "r") >>= (λ r.
    needed_bound line pairs (codes "s") >>= (λ s.
    optional_bound (value_of pairs (codes "d")) >>= (λ d.
    Ok (record { r = r; s = s; d = d }))))

abbrev pub group_families : List Bytes → ℕ → List Pair → Outcome (List ℕ)
group_families names line pairs = needed Jobs line pairs (codes "topologies") >>= topologies names

abbrev pub group_sectors : List Frame → ℕ → List Pair → List ℕ → Outcome (List ℕ)
group_sectors frames line pairs families = needed Jobs line pairs (codes "sectors") >>= sectors frames families

abbrev pub group_of : List Bytes → List Frame → ℕ → List Pair → Outcome Group
group_of names frames line pairs =
    group_families names line pairs >>= (λ families.
    group_sectors frames line pairs families >>= (λ found.
    bounds line pairs >>= (λ b.
    Ok (record { families = families; sectors = found; r = b.r; s = b.s; d = b.d }))))

abbrev pub group_pairs : Tree → Outcome (List Pair)
group_pairs node = fields Jobs group_keys node

-- an item: families, sectors and bounds
abbrev pub group : List Bytes → List Frame → Tree → Outcome Group
group names frames node = group_pairs node >>= group_of names frames (line_of node)

-- ---- the specs of a list of items

-- how many pairs of a family and a sector the items have
abbrev pub pair_count : List Group → ℕ
pair_count groups = sum_by (λ g. length g.families * length g.sectors) groups

abbrev pub spec_of : Group → ℕ → ℕ → Spec
spec_of g family n = record { family = family; sector = n; r = g.r; s = g.s; d = g.d }

-- all pairs of a family and a sector of an item, families outer
abbrev pub specs_of_group : Group → List Spec
specs_of_group g = flat_map (λ family. map (spec_of g family) g.sectors) g.families

abbrev pub specs_of_groups : List Group → List Spec
specs_of_groups groups = flat_map specs_of_group groups

-- at most 256 specs stand under one key
abbrev pub limited : ℕ → List Group → Outcome (List Spec)
limited line groups = if nat_lt 256 (pair_count groups) then refuse Jobs line OutOfRange else Ok (specs_of_groups groups)

-- the specs of a list of at least so many items
abbrev pub specs : List Bytes → List Frame → ℕ → Tree → Outcome (List Spec)
specs names frames least node = items Jobs node least no_limit >>= each (group names frames) [] >>= limited (line_of node)
