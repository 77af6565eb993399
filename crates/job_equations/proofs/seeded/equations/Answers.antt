-- One seed more, and all rows.
use Rattle.std.proofs.Common.{◌≡◌, ◌+◌, ◌<◌, ◌∙◌, ◌∷◌, ◌++◌, ℕ, List, [], Some, length, map, take, sym, ap, subst, unwrap_or, arith}
use Rattle.std.specs.List.{slice_get}
use Rattle.std.specs.Option.{option_map_or}
use Rattle.std.proofs.lemmas.List.{take_all, take_more}
use Rattle.std.proofs.lemmas.Slice.Zip.{AllZip-long}
use Rattle.integral_index.specs.Integral.{Integral}
use Rattle.propagators.specs.Basis.{Basis}
use Rattle.sparse_row.specs.Row.{Row}
use Rattle.job_equations.specs.Places.{Place, origins_at, origins_of, place_of, places}
use Rattle.job_equations.specs.Equations.{AreEquations, AreSymmetriesOf, IsEquationAt, IsEquationFrom, IsSeedOf}
use Rattle.job_equations.specs.Appending.{Appends}
use Rattle.job_equations.proofs.AppendLemmas.{Appends-all, Appends-joined, Appends-map}
use Rattle.job_equations.proofs.EquationLemmas.{equations_are_rows, family_within, found_has, pair_has, read_at, seed_wide}
use Rattle.job_equations.proofs.seeded.equations.Goals as goal

pub bounds-bases-family : goal.bounds-bases-family
bounds-bases-family c =
    let bases = c.args.bases.now in
    let seed = c.seed-item.result in
    let ready : IsSeedOf bases seed = subst (IsSeedOf bases) (sym c.seed-item.is) (c.requires.seeds c.loop-seed.seed-index seed c.loop-seed-test.true) in
    let within : seed.family < length bases = family_within bases seed ready in
    omega (arith, within, c.family-family.ensures)

pub bounds-symmetries-family : goal.bounds-symmetries-family
bounds-symmetries-family c =
    let bases = c.args.bases.now in
    let seed = c.seed-item.result in
    let ready : IsSeedOf bases seed = subst (IsSeedOf bases) (sym c.seed-item.is) (c.requires.seeds c.loop-seed.seed-index seed c.loop-seed-test.true) in
    let within : seed.family < length bases = family_within bases seed ready in
    omega (arith, within, c.family-family.ensures, AllZip-long AreSymmetriesOf bases c.args.symmetries.now c.requires.symmetries)

pub bounds-zeros-family : goal.bounds-zeros-family
bounds-zeros-family c =
    let bases = c.args.bases.now in
    let seed = c.seed-item.result in
    let ready : IsSeedOf bases seed = subst (IsSeedOf bases) (sym c.seed-item.is) (c.requires.seeds c.loop-seed.seed-index seed c.loop-seed-test.true) in
    let within : seed.family < length bases = family_within bases seed ready in
    omega (arith, within, c.family-family.ensures, c.requires.zeros)

pub push_of_seed-requires-clause-modulus : goal.push_of_seed-requires-clause-modulus
push_of_seed-requires-clause-modulus c =
    let bases = c.args.bases.now in
    let seed = c.seed-item.result in
    let ready : IsSeedOf bases seed = subst (IsSeedOf bases) (sym c.seed-item.is) (c.requires.seeds c.loop-seed.seed-index seed c.loop-seed-test.true) in
    let within : seed.family < length bases = family_within bases seed ready in
    let basis : Basis = c.index-bases-family.result in
    found_has (λ (b : Basis). b.point.modulus ≡ c.args.modulus.now) bases seed.family basis c.requires.moduli (read_at bases seed.family _ basis within c.family-family.ensures c.index-bases-family.is)

pub push_of_seed-requires-clause-symmetries : goal.push_of_seed-requires-clause-symmetries
push_of_seed-requires-clause-symmetries c =
    let bases = c.args.bases.now in
    let seed = c.seed-item.result in
    let ready : IsSeedOf bases seed = subst (IsSeedOf bases) (sym c.seed-item.is) (c.requires.seeds c.loop-seed.seed-index seed c.loop-seed-test.true) in
    let within : seed.family < length bases = family_within bases seed ready in
    let symmetries = c.args.symmetries.now in
    let basis : Basis = c.index-bases-family.result in
    let kept : List (List ℕ) = c.index-symmetries-family.result in
    let within_too : seed.family < length symmetries = omega (arith, within, AllZip-long AreSymmetriesOf bases symmetries c.requires.symmetries) in
    subst (AreSymmetriesOf basis) (sym c.as_slice.ensures)
    (pair_has AreSymmetriesOf bases symmetries seed.family basis kept c.requires.symmetries (read_at bases seed.family _ basis within c.family-family.ensures c.index-bases-family.is)
    (read_at symmetries seed.family _ kept within_too c.family-family.ensures c.index-symmetries-family.is))

pub push_of_seed-requires-clause-width : goal.push_of_seed-requires-clause-width
push_of_seed-requires-clause-width c =
    let bases = c.args.bases.now in
    let seed = c.seed-item.result in
    let ready : IsSeedOf bases seed = subst (IsSeedOf bases) (sym c.seed-item.is) (c.requires.seeds c.loop-seed.seed-index seed c.loop-seed-test.true) in
    let within : seed.family < length bases = family_within bases seed ready in
    let basis : Basis = c.index-bases-family.result in
    seed_wide bases seed basis ready (read_at bases seed.family _ basis within c.family-family.ensures c.index-bases-family.is)

pub loop-seed-preserved : goal.loop-seed-preserved
loop-seed-preserved c =
    let bases = c.args.bases.now in
    let seed = c.seed-item.result in
    let ready : IsSeedOf bases seed = subst (IsSeedOf bases) (sym c.seed-item.is) (c.requires.seeds c.loop-seed.seed-index seed c.loop-seed-test.true) in
    let within : seed.family < length bases = family_within bases seed ready in
    let symmetries = c.args.symmetries.now in
    let zeros = c.args.zeros.now in
    let seeds = c.args.seeds.now in
    let i = c.loop-seed.seed-index in
    let basis : Basis = c.index-bases-family.result in
    let listed : List ℕ = c.index-zeros-family.result in
    let kept : List (List ℕ) = c.as_slice.result.now in
    let within_too : seed.family < length symmetries = omega (arith, within, AllZip-long AreSymmetriesOf bases symmetries c.requires.symmetries) in
    let within_zeros : seed.family < length zeros = omega (arith, within, c.requires.zeros) in
    let has_basis : slice_get bases seed.family ≡ Some basis = read_at bases seed.family _ basis within c.family-family.ensures c.index-bases-family.is in
    let has_zeros : slice_get zeros seed.family ≡ Some listed = read_at zeros seed.family _ listed within_zeros c.family-family.ensures c.index-zeros-family.is in
    let has_symmetries : slice_get symmetries seed.family ≡ Some kept =
    read_at symmetries seed.family _ c.index-symmetries-family.result within_too c.family-family.ensures c.index-symmetries-family.is ∙ ap (λ found. Some found) (sym c.as_slice.ensures) in
    let new = c.push_of_seed.new.rows.items in
    let R : Place → Row → Type 0 = IsEquationAt bases zeros c.args.dimension c.args.order in
    let places_of : Integral → List Place = λ x. map (place_of x) (origins_at bases symmetries x.family) in
    let here : Appends R (map (place_of seed) (origins_of basis kept)) c.loop-seed.rows.items new =
    Appends-map (place_of seed) (IsEquationFrom basis c.args.dimension seed listed c.args.order) R
    (λ origin row h. record { basis = basis; zero_sectors = listed; has_basis = has_basis; has_zeros = has_zeros; is = h })
    (origins_of basis kept) c.loop-seed.rows.items new c.in_ok-push_of_seed.ensures in
    let all : map (place_of seed) (origins_of basis kept) ≡ places_of seed =
    ap (λ found. map (place_of seed) (origins_of basis (unwrap_or found []))) (sym has_symmetries)
    ∙ ap (λ found. map (place_of seed) (option_map_or (λ b. origins_of b (unwrap_or (slice_get symmetries seed.family) [])) found [])) (sym has_basis) in
    let longer : take i seeds ++ seed ∷ [] ≡ take (i + 1) seeds = ap (λ (x : Integral). take i seeds ++ x ∷ []) c.seed-item.is ∙ sym (take_more seeds i seed c.loop-seed-test.true) in
    subst (λ (some : List Integral). Appends R (places bases symmetries some) [] new) longer
    (Appends-joined R places_of (take i seeds) seed [] c.loop-seed.rows.items new c.loop-seed.invariant
    (subst (λ ps. Appends R ps c.loop-seed.rows.items new) all here))

pub returns-clause-equations : goal.returns-clause-equations
returns-clause-equations c =
    let all = take_all c.loop-seed.seed-index c.args.seeds.now c.loop-seed-test.false in
    subst (λ (seeds : List Integral). AreEquations c.args.bases.now c.args.symmetries.now c.args.zeros.now c.args.dimension c.args.order seeds c.loop-seed.rows.items) all
    (Appends-all (IsEquationAt c.args.bases.now c.args.zeros.now c.args.dimension c.args.order) (places c.args.bases.now c.args.symmetries.now (take c.loop-seed.seed-index c.args.seeds.now)) c.loop-seed.rows.items c.loop-seed.invariant)

pub returns-clause-rows : goal.returns-clause-rows
returns-clause-rows c =
    equations_are_rows c.args.bases.now c.args.symmetries.now c.args.zeros.now c.args.dimension c.args.order c.args.modulus.now c.requires.moduli c.args.seeds.now c.loop-seed.rows.items (returns-clause-equations c)
