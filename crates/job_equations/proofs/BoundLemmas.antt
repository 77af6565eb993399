-- The bound, seed by seed.
use Rattle.std.proofs.Common.{◌≡◌, ◌≢◌, ℕ, zero, suc, ◌+◌, ◌*◌, ◌<◌, ◌==◌, true, false, cond, List, [], ◌∷◌, ◌++◌, length, get_or, refl, sym, ap, ◌∙◌, arith, add_assoc}
use Rattle.std.specs.Prelude.{sum_by}
use Rattle.std.specs.List.{enumerate_from}
use Rattle.std.proofs.lemmas.Bool.Decides.{nat_tests}
use Rattle.std.proofs.lemmas.List.Sums.{sum_by-cons, sum_by_push}
use Rattle.integral_index.specs.Integral.{Integral}
use Rattle.job_equations.specs.declared.bounds.EquationShape.{EquationShape}
use Rattle.job_equations.specs.Bounds.{equations_of_seed, seeds_of, term_bound, terms_of_equation}

abbrev pub weight : EquationShape → ℕ
weight shape = equations_of_seed shape * terms_of_equation shape

-- the sum over families of which the first has this number
abbrev bound_from : ℕ → List EquationShape → List Integral → ℕ
bound_from n shapes seeds = sum_by (λ family. seeds_of family.0 seeds * weight family.1) (enumerate_from n shapes)

bound_from-cons : (n : ℕ) (shape : EquationShape) (shapes : List EquationShape) (seeds : List Integral) → bound_from n (shape ∷ shapes) seeds ≡ seeds_of n seeds * weight shape + bound_from (n + 1) shapes seeds
bound_from-cons n shape shapes seeds = sum_by-cons (λ (family : ℕ × EquationShape). seeds_of family.0 seeds * weight family.1) (n, shape) (enumerate_from (n + 1) shapes)

module _ (seeds : List Integral) (seed : Integral) where
  seeds_of-push : (n : ℕ) → seeds_of n (seeds ++ seed ∷ []) ≡ seeds_of n seeds + cond (seed.family == n) 1 0
  seeds_of-push n = sum_by_push (λ (x : Integral). cond (x.family == n) 1 0) seeds seed

  seeds_of-same : (n : ℕ) → seed.family ≡ n → seeds_of n (seeds ++ seed ∷ []) ≡ seeds_of n seeds + 1
  seeds_of-same n e = let same : (seed.family == n) ≡ true = grind (arith, nat_tests) in seeds_of-push n ∙ ap (λ b. seeds_of n seeds + cond b 1 0) same

  seeds_of-other : (n : ℕ) → seed.family ≢ n → seeds_of n (seeds ++ seed ∷ []) ≡ seeds_of n seeds
  seeds_of-other n e =
      let other : (seed.family == n) ≡ false = grind (arith, nat_tests) in
      let none : seeds_of n seeds + 0 ≡ seeds_of n seeds = omega arith in
      seeds_of-push n ∙ ap (λ b. seeds_of n seeds + cond b 1 0) other ∙ none

  -- a seed of a family before these
  before : (n : ℕ) (shapes : List EquationShape) → seed.family < n → bound_from n shapes (seeds ++ seed ∷ []) ≡ bound_from n shapes seeds
  before n [] below = refl
  before n (shape ∷ shapes) below =
      let other : seed.family ≢ n = omega arith in
      let here = seeds_of-other n other in
      let rest = before (n + 1) shapes (omega arith) in
      bound_from-cons n shape shapes (seeds ++ seed ∷ [])
      ∙ (λ i. here i * weight shape + rest i)
      ∙ sym (bound_from-cons n shape shapes seeds)

  more : (m w rest : ℕ) → (m + 1) * w + rest ≡ m * w + rest + w
  more m w rest = omega arith

  -- a seed of the family with this place among these
  among : (n k : ℕ) (shapes : List EquationShape) (d : EquationShape) → seed.family ≡ n + k → k < length shapes → bound_from n shapes (seeds ++ seed ∷ []) ≡ bound_from n shapes seeds + weight (get_or shapes k d)
  among n k [] d e within = absurd (omega (arith, within))
  among n zero (shape ∷ shapes) d e within =
      let here = seeds_of-same n (let same : seed.family ≡ n = omega arith in same) in
      let rest = before (n + 1) shapes (omega arith) in
      bound_from-cons n shape shapes (seeds ++ seed ∷ [])
      ∙ (λ i. here i * weight shape + rest i)
      ∙ more (seeds_of n seeds) (weight shape) (bound_from (n + 1) shapes seeds)
      ∙ ap (λ m. m + weight shape) (sym (bound_from-cons n shape shapes seeds))
  among n (suc k) (shape ∷ shapes) d e within =
      let other : seed.family ≢ n = omega arith in
      let here = seeds_of-other n other in
      let rest = among (n + 1) k shapes d (omega arith) (omega (arith, within)) in
      bound_from-cons n shape shapes (seeds ++ seed ∷ [])
      ∙ (λ i. here i * weight shape + rest i)
      ∙ sym (add_assoc (seeds_of n seeds * weight shape) (bound_from (n + 1) shapes seeds) (weight (get_or shapes k d)))
      ∙ ap (λ m. m + weight (get_or shapes k d)) (sym (bound_from-cons n shape shapes seeds))

-- one seed more adds the number of its family
pub term_bound-push : (shapes : List EquationShape) (seeds : List Integral) (seed : Integral) (d : EquationShape) → seed.family < length shapes → term_bound shapes (seeds ++ seed ∷ []) ≡ term_bound shapes seeds + weight (get_or shapes seed.family d)
term_bound-push shapes seeds seed d within = among seeds seed 0 seed.family shapes d (omega arith) within

-- without seeds the bound is 0
none_from : (n : ℕ) (shapes : List EquationShape) → bound_from n shapes [] ≡ 0
none_from n [] = refl
none_from n (shape ∷ shapes) = bound_from-cons n shape shapes [] ∙ (let e = none_from (n + 1) shapes in omega (arith, e))

pub term_bound-none : (shapes : List EquationShape) → term_bound shapes [] ≡ 0
term_bound-none shapes = none_from 0 shapes
