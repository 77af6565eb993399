-- The rows of a list of equations.
use Rattle.std.proofs.Common.{◌≡◌, ◌<◌, ℕ, List, length, get_or, [], ◌∷◌, refl, sym, ap, subst, ◌∙◌, Some, unwrap_or}
use Rattle.std.specs.Prelude.{All, IsSomeAnd, MatchOption}
use Rattle.std.specs.List.{AllByRecursion, AllZip, slice_get}
use Rattle.std.proofs.lemmas.List.Elements.{All-from_recursion}
use Rattle.std.proofs.lemmas.Option.{get_or_from_slice_get, slice_get_read, slice_get_within}
use Rattle.std.proofs.lemmas.Slice.Zip.{AllZip-left}
use Rattle.integral_index.specs.Integral.{Integral}
use Rattle.integral_index.specs.declared.Order.{Order}
use Rattle.propagators.specs.Basis.{Basis}
use Rattle.sparse_row.specs.Row.{Row, IsRow}
use Rattle.ibp_generator.specs.Laws.{OneEquation}
use Rattle.symmetry_maps.specs.Laws.{OneSymmetryEquation}
use Rattle.job_equations.specs.Places.{Origin, Derivative, Symmetry, Place, places}
use Rattle.job_equations.specs.Equations.{AreEquations, IsEquationFrom, IsEquationAt, IsSeedOf}

pub same_some : {A : Type 0} (x y : A) → Some x ≡ Some y → x ≡ y
same_some x y e = ap (λ o. unwrap_or o x) e

-- what all have, the one that was found has
pub found_has : {A : Type 0} (P : A → Type 0) (xs : List A) (k : ℕ) (x : A) → All P xs → slice_get xs k ≡ Some x → P x
found_has P xs k x each found = subst P (get_or_from_slice_get xs k x x found) (each k x (slice_get_within xs k x found))

-- what all pairs have, the pair that was found has
pub pair_has : {A B : Type 0} (R : A → B → Type 0) (xs : List A) (ys : List B) (k : ℕ) (x : A) (y : B) → AllZip R xs ys → slice_get xs k ≡ Some x → slice_get ys k ≡ Some y → R x y
pair_has R xs ys k x y each found other =
    let here : IsSomeAnd (slice_get ys k) (R x) = subst (λ o. MatchOption o (Unit {0}) (λ z. IsSomeAnd (slice_get ys k) (R z))) found (AllZip-left R xs ys each k) in
    subst (λ o. IsSomeAnd o (R x)) other here

-- what was read at the place of a family stands there
pub read_at : {A : Type 0} (xs : List A) (family k : ℕ) (x : A) → family < length xs → k ≡ family → x ≡ get_or xs k x → slice_get xs family ≡ Some x
read_at xs family k x within same is = slice_get_read xs (length xs) family x refl within (is ∙ ap (λ n. get_or xs n x) same)

pub family_within : (bases : List Basis) (seed : Integral) → IsSeedOf bases seed → seed.family < length bases
family_within bases seed h = slice_get_within bases seed.family h.basis h.found

-- the basis of the family is that of the seed
pub seed_wide : (bases : List Basis) (seed : Integral) (basis : Basis) → IsSeedOf bases seed → slice_get bases seed.family ≡ Some basis → length seed.indices ≡ length basis.denominators
seed_wide bases seed basis h found = subst (λ (b : Basis). length seed.indices ≡ length b.denominators) (same_some h.basis basis (sym h.found ∙ found)) h.width

-- the equation of a seed that comes from one thing is a row of residues in the order
is_row : (basis : Basis) (d : ℕ) (seed : Integral) (zeros : List ℕ) (order : Order) (origin : Origin) (row : Row) → IsEquationFrom basis d seed zeros order origin row → IsRow basis.point.modulus order row
is_row basis d seed zeros order (Derivative i q) row h = h.is_row
is_row basis d seed zeros order (Symmetry σ) row h = h.is_row

-- and there is only one
one_from : OneEquation → OneSymmetryEquation → (basis : Basis) (d : ℕ) (seed : Integral) (zeros : List ℕ) (order : Order) (origin : Origin) (row other : Row)
    → IsEquationFrom basis d seed zeros order origin row → IsEquationFrom basis d seed zeros order origin other → row ≡ other
one_from one symmetric basis d seed zeros order (Derivative i q) row other h k = one basis d i q seed zeros order row other h k
one_from one symmetric basis d seed zeros order (Symmetry σ) row other h k = symmetric basis.point.modulus σ seed zeros order row other h k

module _ (bases : List Basis) (symmetries : List (List (List ℕ))) (zeros : List (List ℕ)) (d : ℕ) (order : Order) where
  one_row : OneEquation → OneSymmetryEquation → (place : Place) (row other : Row) → IsEquationAt bases zeros d order place row → IsEquationAt bases zeros d order place other → row ≡ other
  one_row one symmetric place row other h k =
      let same_basis : h.basis ≡ k.basis = same_some h.basis k.basis (sym h.has_basis ∙ k.has_basis) in
      let same_zeros : h.zero_sectors ≡ k.zero_sectors = same_some h.zero_sectors k.zero_sectors (sym h.has_zeros ∙ k.has_zeros) in
      one_from one symmetric h.basis d place.seed h.zero_sectors order place.origin row other h.is
      (subst (λ (b : Basis). IsEquationFrom b d place.seed h.zero_sectors order place.origin other) (sym same_basis)
      (subst (λ (z : List ℕ). IsEquationFrom k.basis d place.seed z order place.origin other) (sym same_zeros) k.is))

  one_list : OneEquation → OneSymmetryEquation → (some : List Place) (rows others : List Row) → AllZip (IsEquationAt bases zeros d order) some rows → AllZip (IsEquationAt bases zeros d order) some others → rows ≡ others
  one_list one symmetric [] [] [] h k = refl
  one_list one symmetric [] [] (other ∷ others) h k = absurd k
  one_list one symmetric [] (row ∷ rows) others h k = absurd h
  one_list one symmetric (place ∷ some) [] others h k = absurd h
  one_list one symmetric (place ∷ some) (row ∷ rows) [] h k = absurd k
  one_list one symmetric (place ∷ some) (row ∷ rows) (other ∷ others) h k =
      let first : row ≡ other = one_row one symmetric place row other h.0 k.0 in
      let rest : rows ≡ others = one_list one symmetric some rows others h.1 k.1 in
      λ i. first i ∷ rest i

  -- the seeds have only one list of equations
  pub one_list_of_equations : OneEquation → OneSymmetryEquation → (seeds : List Integral) (rows others : List Row) → AreEquations bases symmetries zeros d order seeds rows → AreEquations bases symmetries zeros d order seeds others → rows ≡ others
  one_list_of_equations one symmetric seeds = one_list one symmetric (places bases symmetries seeds)

  module _ (p : ℕ) (moduli : All (λ (basis : Basis). basis.point.modulus ≡ p) bases) where
    rows_by_recursion : (some : List Place) (rows : List Row) → AllZip (IsEquationAt bases zeros d order) some rows → AllByRecursion (IsRow p order) rows
    rows_by_recursion [] [] h = tt
    rows_by_recursion [] (row ∷ rows) h = absurd h
    rows_by_recursion (place ∷ some) [] h = absurd h
    rows_by_recursion (place ∷ some) (row ∷ rows) h = (
      subst (λ m. IsRow m order row) (found_has (λ (basis : Basis). basis.point.modulus ≡ p) bases place.seed.family h.0.basis moduli h.0.has_basis)
          (is_row h.0.basis d place.seed h.0.zero_sectors order place.origin row h.0.is),
      rows_by_recursion some rows h.1,
    )

    -- each equation is a row of residues in the order
    pub equations_are_rows : (seeds : List Integral) (rows : List Row) → AreEquations bases symmetries zeros d order seeds rows → All (IsRow p order) rows
    equations_are_rows seeds rows h = All-from_recursion (IsRow p order) rows (rows_by_recursion (places bases symmetries seeds) rows h)
