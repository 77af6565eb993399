-- Members and pairs of lists that are filtered, or joined from parts.
use Rattle.std.proofs.Common.{◌≡◌, zero, suc, Bool, true, false, cond, List, [], ◌∷◌, ◌++◌, get_or, All, AllPairs, Contains, filter, flat_map, refl, sym, ap, subst, ◌∙◌, inl, inr, arith}
use Rattle.std.proofs.lemmas.List.Elements.{Contains-append_left, Contains-append_right, Contains-append_cases, Contains-get_or, filter-append}
use Rattle.std.specs.List.{list_any, list_all}
use Rattle.std.proofs.lemmas.Bool.{false≢true, or_cases, or_left, or_right, and_parts, and_from}
use Rattle.sector_forward.proofs.Members.{Contains-cons_cases, Contains-here, Contains-there, AllPairs-head, AllPairs-tail}

module _ {X : Type 0} where
  pub Contains-none : (x : X) → ¬ (Contains [] x)
  Contains-none x member = absurd (omega (arith, member.1))

  pub All-from_members : (P : X → Type 0) (xs : List X) → ((x : X) → Contains xs x → P x) → All P xs
  All-from_members P xs each k d h = each (get_or xs k d) (Contains-get_or xs k d h)

  -- ---- pairs

  pub AllPairs-none : (R : X → X → Type 0) → AllPairs R []
  AllPairs-none R i j d l h = absurd (omega arith)

  pub AllPairs-cons : (R : X → X → Type 0) (x : X) (xs : List X) → ((y : X) → Contains xs y → R x y) → AllPairs R xs → AllPairs R (x ∷ xs)
  AllPairs-cons R x xs first rest zero zero d l h = absurd (omega arith)
  AllPairs-cons R x xs first rest zero (suc j) d l h = first (get_or xs j d) (Contains-get_or xs j d (omega arith))
  AllPairs-cons R x xs first rest (suc i) zero d l h = absurd (omega arith)
  AllPairs-cons R x xs first rest (suc i) (suc j) d l h = rest i j d (omega arith) (omega arith)

  pub AllPairs-append : (R : X → X → Type 0) (xs ys : List X) → AllPairs R xs → AllPairs R ys → ((x y : X) → Contains xs x → Contains ys y → R x y) → AllPairs R (xs ++ ys)
  AllPairs-append R [] ys first second across = second
  AllPairs-append R (x ∷ xs) ys first second across =
      AllPairs-cons R x (xs ++ ys)
      (λ y member.
      elim (Contains-append_cases xs ys y member) [
        | inl in_first ↦ AllPairs-head R x xs y first in_first
        | inr in_second ↦ across x y (Contains-here x xs) in_second
      ])
      (AllPairs-append R xs ys (AllPairs-tail R x xs first) second (λ a b m n. across a b (Contains-there x xs a m) n))

  -- ---- what a filter keeps

  pub kept_member : (test : X → Bool) (xs : List X) (x : X) → Contains (filter test xs) x → Contains xs x × (test x ≡ true)
  kept_member test [] x member = absurd (omega (arith, member.1))
  kept_member test (y ∷ ys) x member =
      elim (test y) as (λ b. test y ≡ b → Contains (cond b (y ∷ filter test ys) (filter test ys)) x → Contains (y ∷ ys) x × (test x ≡ true)) [
        | true ↦ λ passes m.
            elim (Contains-cons_cases y (filter test ys) x m) [
              | inl same ↦ (subst (Contains (y ∷ ys)) same (Contains-here y ys), ap test (sym same) ∙ passes)
              | inr later ↦ let old = kept_member test ys x later in (Contains-there y ys x old.0, old.1)
            ]
        | false ↦ λ fails m. let old = kept_member test ys x m in (Contains-there y ys x old.0, old.1)
      ] refl member

  pub member_kept : (test : X → Bool) (xs : List X) (x : X) → Contains xs x → test x ≡ true → Contains (filter test xs) x
  member_kept test [] x member passes = absurd (omega (arith, member.1))
  member_kept test (y ∷ ys) x member passes =
      elim (test y) as (λ b. test y ≡ b → Contains (cond b (y ∷ filter test ys) (filter test ys)) x) [
        | true ↦ λ _.
            elim (Contains-cons_cases y ys x member) [
              | inl same ↦ subst (Contains (y ∷ filter test ys)) same (Contains-here y (filter test ys))
              | inr later ↦ Contains-there y (filter test ys) x (member_kept test ys x later passes)
            ]
        | false ↦ λ fails.
            elim (Contains-cons_cases y ys x member) [
              | inl same ↦ absurd (false≢true (sym fails ∙ ap test same ∙ passes))
              | inr later ↦ member_kept test ys x later passes
            ]
      ] refl

  pub none_kept : (test : X → Bool) (xs : List X) → ((x : X) → Contains xs x → test x ≡ false) → filter test xs ≡ []
  none_kept test [] none = refl
  none_kept test (y ∷ ys) none =
      ap (λ b. cond b (y ∷ filter test ys) (filter test ys)) (none y (Contains-here y ys)) ∙ none_kept test ys (λ x m. none x (Contains-there y ys x m))

  pub AllPairs-filter : (R : X → X → Type 0) (test : X → Bool) (xs : List X) → AllPairs R xs → AllPairs R (filter test xs)
  AllPairs-filter R test [] pairs = AllPairs-none R
  AllPairs-filter R test (x ∷ xs) pairs =
      let rest = AllPairs-filter R test xs (AllPairs-tail R x xs pairs) in
      elim (test x) as (λ b. AllPairs R (cond b (x ∷ filter test xs) (filter test xs))) [
        | true ↦ AllPairs-cons R x (filter test xs) (λ y m. AllPairs-head R x xs y pairs (kept_member test xs y m).0) rest
        | false ↦ rest
      ]

  -- ---- tests of all or of some members

  pub some_passes : (test : X → Bool) (xs : List X) → list_any test xs ≡ true → (x : X) × Contains xs x × (test x ≡ true)
  some_passes test [] h = absurd (false≢true h)
  some_passes test (y ∷ ys) h =
      elim (or_cases (test y) (list_any test ys) h) [
        | inl here ↦ (y, Contains-here y ys, here)
        | inr later ↦ let found = some_passes test ys later in (found.0, Contains-there y ys found.0 found.1, found.2)
      ]

  pub any_passes : (test : X → Bool) (xs : List X) (x : X) → Contains xs x → test x ≡ true → list_any test xs ≡ true
  any_passes test [] x member passes = absurd (omega (arith, member.1))
  any_passes test (y ∷ ys) x member passes =
      elim (Contains-cons_cases y ys x member) [
        | inl same ↦ or_left (test y) (list_any test ys) (ap test same ∙ passes)
        | inr later ↦ or_right (test y) (list_any test ys) (any_passes test ys x later passes)
      ]

  pub each_passes : (test : X → Bool) (xs : List X) → list_all test xs ≡ true → (x : X) → Contains xs x → test x ≡ true
  each_passes test [] h x member = absurd (omega (arith, member.1))
  each_passes test (y ∷ ys) h x member =
      let parts = and_parts (test y) (list_all test ys) h in
      elim (Contains-cons_cases y ys x member) [ inl same ↦ ap test (sym same) ∙ parts.0 | inr later ↦ each_passes test ys parts.1 x later ]

  pub all_pass : (test : X → Bool) (xs : List X) → ((x : X) → Contains xs x → test x ≡ true) → list_all test xs ≡ true
  all_pass test [] each = refl
  all_pass test (y ∷ ys) each =
      and_from (test y) (list_all test ys) (each y (Contains-here y ys)) (all_pass test ys (λ x m. each x (Contains-there y ys x m)))

-- ---- lists joined from parts

module _ {X Y : Type 0} (part : X → List Y) where
  pub member_joined : (xs : List X) (x : X) (y : Y) → Contains xs x → Contains (part x) y → Contains (flat_map part xs) y
  member_joined [] x y at inside = absurd (omega (arith, at.1))
  member_joined (z ∷ zs) x y at inside =
      elim (Contains-cons_cases z zs x at) [
        | inl same ↦ Contains-append_left (part z) (flat_map part zs) y (subst (λ u. Contains (part u) y) (sym same) inside)
        | inr later ↦ Contains-append_right (part z) (flat_map part zs) y (member_joined zs x y later inside)
      ]

  pub joined_member : (xs : List X) (y : Y) → Contains (flat_map part xs) y → (x : X) × Contains xs x × Contains (part x) y
  joined_member [] y member = absurd (omega (arith, member.1))
  joined_member (z ∷ zs) y member =
      elim (Contains-append_cases (part z) (flat_map part zs) y member) [
        | inl here ↦ (z, Contains-here z zs, here)
        | inr later ↦ let found = joined_member zs y later in (found.0, Contains-there z zs found.0 found.1, found.2)
      ]

  pub AllPairs-joined : (R : Y → Y → Type 0) (L : X → X → Type 0) (xs : List X) → ((x : X) → AllPairs R (part x)) → AllPairs L xs → ((x z : X) (y w : Y) → L x z → Contains (part x) y → Contains (part z) w → R y w) → AllPairs R (flat_map part xs)
  AllPairs-joined R L [] each pairs across = AllPairs-none R
  AllPairs-joined R L (x ∷ xs) each pairs across =
      AllPairs-append R (part x) (flat_map part xs) (each x) (AllPairs-joined R L xs each (AllPairs-tail L x xs pairs) across)
      (λ y w here later. let found = joined_member xs w later in across x found.0 y w (AllPairs-head L x xs found.0 pairs found.1) here found.2)

  pub filter-joined : (test : Y → Bool) (xs : List X) → filter test (flat_map part xs) ≡ flat_map (λ x. filter test (part x)) xs
  filter-joined test [] = refl
  filter-joined test (x ∷ xs) = filter-append test (part x) (flat_map part xs) ∙ ap (λ ys. filter test (part x) ++ ys) (filter-joined test xs)

pub joined_same : {X Y : Type 0} (first second : X → List Y) (xs : List X) → ((x : X) → first x ≡ second x) → flat_map first xs ≡ flat_map second xs
joined_same first second [] same = refl
joined_same first second (x ∷ xs) same = λ i. same x i ++ joined_same first second xs same i
