-- How a list of integrals grows, step by step, and why it can't.
use Rattle.std.proofs.Common.{◌≡◌, ℕ, ◌+◌, ◌<◌, List, [], ◌∷◌, ◌++◌, sym, subst, arith, ◌⊎◌, inl, inr}
use Rattle.std.specs.Prelude.{◌↔◌, Contains}
use Rattle.std.proofs.lemmas.Bool.{cases_lt}
use Rattle.std.proofs.lemmas.List.Elements.{Contains-append_left, Contains-push, Contains-push_cases}
use Rattle.integral_index.specs.declared.Order.{Order}
use Rattle.integral_index.specs.Integral.{Integral}
use Rattle.seed_sets.specs.declared.faults.SeedFault.{SeedFault}
use Rattle.seed_sets.specs.declared.faults.SeedFault.TheVariants.{TooMany, OutOfMemory}
use Rattle.seed_sets.specs.Seeds.{IsCause}
use Rattle.seed_sets.specs.Gathering.{IsAmong, Gains, IsBefore}

pub before_more : (n : ℕ) (Kinds : ℕ → Integral → Type 0) (x : Integral) → IsBefore n Kinds x → IsBefore (n + 1) Kinds x
before_more n Kinds x w = (w.0, omega (arith, w.1), w.2)

before_or_at : (n : ℕ) (Kinds : ℕ → Integral → Type 0) (x : Integral) → IsBefore (n + 1) Kinds x → IsBefore n Kinds x ⊎ Kinds n x
before_or_at n Kinds x w =
    elim (cases_lt w.0 n) [
      | inl below ↦ inl (w.0, below, w.2)
      | inr past ↦ (let same : w.0 ≡ n = omega (arith, w.1, past) in inr (subst (λ (k : ℕ). Kinds k x) same w.2))
    ]

pub Gains-none : (old : List Integral) (Kinds : ℕ → Integral → Type 0) → Gains old old (IsBefore 0 Kinds)
Gains-none old Kinds x = (
  λ m. inl m,
  λ w. elim w [ inl m ↦ m | inr v ↦ absurd (omega (arith, v.1)) ],
)

-- nothing was added where there is nothing of the kind
pub Gains-nothing : (old : List Integral) (Kind : Integral → Type 0) → ((x : Integral) → ¬ (Kind x)) → Gains old old Kind
Gains-nothing old Kind none x = (
  λ m. inl m,
  λ w. elim w [ inl m ↦ m | inr v ↦ absurd (none x v) ],
)

pub Gains-more : (old mid new : List Integral) (n : ℕ) (Kinds : ℕ → Integral → Type 0) → Gains old mid (IsBefore n Kinds) → Gains mid new (Kinds n) → Gains old new (IsBefore (n + 1) Kinds)
Gains-more old mid new n Kinds was now x = (to, from)
  where
    to : Contains new x → IsAmong old (IsBefore (n + 1) Kinds) x
    to m =
        elim ((now x).0 m) [
          | inl in_mid ↦ elim ((was x).0 in_mid) [ inl in_old ↦ inl in_old | inr w ↦ inr (before_more n Kinds x w) ]
          | inr kind ↦ inr (n, omega arith, kind)
        ]

    from : IsAmong old (IsBefore (n + 1) Kinds) x → Contains new x
    from w =
        elim w [
          | inl in_old ↦ (now x).1 (inl ((was x).1 (inl in_old)))
          | inr v ↦ elim (before_or_at n Kinds x v) [
            | inl before ↦ (now x).1 (inl ((was x).1 (inr before)))
            | inr kind ↦ (now x).1 (inr kind)
          ]
        ]

pub Gains-same : (old new : List Integral) (P Q : Integral → Type 0) → ((x : Integral) → P x ↔ Q x) → Gains old new P → Gains old new Q
Gains-same old new P Q same gains x = (
  λ m. elim ((gains x).0 m) [ inl in_old ↦ inl in_old | inr p ↦ inr ((same x).0 p) ],
  λ w. elim w [ inl in_old ↦ (gains x).1 (inl in_old) | inr q ↦ (gains x).1 (inr ((same x).1 q)) ],
)

pub IsCause-weaker : (order : Order) (most : ℕ) (P Q : Integral → Type 0) → ((x : Integral) → P x → Q x) → (e : SeedFault) → IsCause order most P e → IsCause order most Q e
IsCause-weaker order most P Q f (TooMany count) cause =
    (cause.0, record { some = cause.1.some; ascends = cause.1.ascends; more = cause.1.more; each = λ x m. f x (cause.1.each x m) })
IsCause-weaker order most P Q f OutOfMemory cause = tt

among_same : (old : List Integral) (P Q : Integral → Type 0) → ((x : Integral) → P x → Q x) → (x : Integral) → IsAmong old P x → IsAmong old Q x
among_same old P Q f x w = elim w [ inl m ↦ inl m | inr p ↦ inr (f x p) ]

pub IsCause-same : (order : Order) (most : ℕ) (old : List Integral) (P Q : Integral → Type 0) → ((x : Integral) → P x → Q x) → (e : SeedFault) → IsCause order most (IsAmong old P) e → IsCause order most (IsAmong old Q) e
IsCause-same order most old P Q f = IsCause-weaker order most (IsAmong old P) (IsAmong old Q) (among_same old P Q f)

-- a step that fails after others
pub IsCause-more : (order : Order) (most : ℕ) (old mid : List Integral) (n m : ℕ) (Kinds : ℕ → Integral → Type 0) → n < m → Gains old mid (IsBefore n Kinds) → (e : SeedFault) → IsCause order most (IsAmong mid (Kinds n)) e → IsCause order most (IsAmong old (IsBefore m Kinds)) e
IsCause-more order most old mid n m Kinds below was = IsCause-weaker order most (IsAmong mid (Kinds n)) (IsAmong old (IsBefore m Kinds)) step
  where
    step : (x : Integral) → IsAmong mid (Kinds n) x → IsAmong old (IsBefore m Kinds) x
    step x w =
        elim w [
          | inl in_mid ↦ elim ((was x).0 in_mid) [ inl in_old ↦ inl in_old | inr v ↦ inr (v.0, omega (arith, v.1), v.2) ]
          | inr kind ↦ inr (n, below, kind)
        ]

-- one integral more at the end
pub Gains-push : (old new : List Integral) (x : Integral) → new ≡ old ++ x ∷ [] → Gains old new (λ y. x ≡ y)
Gains-push old new x is y = (
  λ m. Contains-push_cases old x y (subst (λ (l : List Integral). Contains l y) is m),
  λ w. subst (λ (l : List Integral). Contains l y) (sym is) (elim w [
    | inl m ↦ Contains-append_left old (x ∷ []) y m
    | inr e ↦ subst (Contains (old ++ x ∷ [])) e (Contains-push old x)
  ]),
)

-- what is among nothing and a kind is of the kind
pub of_none : (Kind : Integral → Type 0) (x : Integral) → IsAmong [] Kind x → Kind x
of_none Kind x w = elim w [ inl m ↦ absurd (omega (arith, m.1)) | inr v ↦ v ]

-- the members after all kinds
pub Gains-all : (new : List Integral) (n m : ℕ) (Kinds : ℕ → Integral → Type 0) (Kind : Integral → Type 0) → n ≡ m → Gains [] new (IsBefore n Kinds) → ((x : Integral) → IsBefore m Kinds x ↔ Kind x) → (x : Integral) → Contains new x ↔ Kind x
Gains-all new n m Kinds Kind all gains same x = (
  λ h. (same x).0 (subst (λ (k : ℕ). IsBefore k Kinds x) all (of_none (IsBefore n Kinds) x ((gains x).0 h))),
  λ k. (gains x).1 (inr (subst (λ (k : ℕ). IsBefore k Kinds x) (sym all) ((same x).1 k))),
)
