-- A row of which something is left, which solves a column.
use Rattle.std.proofs.Common.{◌≡◌, ◌≢◌, ℕ, zero, suc, ◌+◌, ◌-◌, ◌*◌, ◌%◌, ◌<◌, ◌≤◌, true, false, cond, List, [], ◌∷◌, length, get_or, replicate, All, Option, Some, None, is_some, count_by, refl, sym, ap, ◌∙◌, subst, arith, add-zero, zero-add, inl, inr}
use Rattle.std.proofs.Math.Nat.{mod-eq_of_lt, mod-mod, zero-mod, mul_comm, mul-zero, zero-mul, mul-one, mul-add, add-mod-mod, suc-ne-zero, mod_self}
use Rattle.std.proofs.lemmas.Bool.{cases_eq, cases_lt}
use Rattle.std.proofs.lemmas.List.{length-replicate}
use Rattle.std.proofs.lemmas.List.Sums.{sum_by-cons}
use Rattle.field_word.specs.Residues.{opposite_of}
use Rattle.matrix_elimination.specs.declared.elimination.Solved.{Solved}
use Rattle.matrix_elimination.specs.declared.elimination.Eliminated.{Eliminated}
use Rattle.matrix_elimination.specs.Vectors.{dot, column as column_of, unit_at}
use Rattle.matrix_elimination.specs.Elimination.{entry_at, multiplier_at, entries_at, multipliers_at, HasSum, IsSolved, IsCancelled, IsBacked}
use Rattle.matrix_elimination.specs.Steps.{IsWithMultiple, IsCleared, Solves, IsPartial}
use Rattle.matrix_elimination.proofs.Congruences.{sums, multiples, cancel, opposites, subtracted, undone}
use Rattle.matrix_elimination.proofs.Weights.{weigh, dot-weigh, dot-zeros, weigh-same, weigh-add, weigh-scale, weigh-unit, unit_at-here, unit_at-other}
use Rattle.matrix_elimination.proofs.Reducing.{entries_at-at, multipliers_at-at}
use Rattle.matrix_elimination.proofs.Balance.{IsBalanced, IsBalanced-with_multiple, IsBalanced-multiple}
use Rattle.matrix_elimination.proofs.Taking.{IsTaking, entry_below, vanishes, first_multipliers}

-- ---- numbers

-- nothing is added
added_none : (p a f b : ℕ) → a < p → b ≡ 0 → (a + (f * b) % p) % p ≡ a
added_none p a f b h e = ap (λ n. (a + (f * n) % p) % p) e ∙ ap (λ n. (a + n % p) % p) (mul-zero f) ∙ add-mod-mod a 0 p ∙ ap (λ n. n % p) (add-zero a) ∙ mod-eq_of_lt h

-- the entry itself is taken away
cleared_here : (p a b : ℕ) → a < p → b ≡ 1 → (a + (((p - a) % p) * b) % p) % p ≡ 0
cleared_here p a b h e =
    ap (λ n. (a + (((p - a) % p) * n) % p) % p) e ∙ ap (λ n. (a + n % p) % p) (mul-one ((p - a) % p)) ∙ add-mod-mod a ((p - a) % p) p
    ∙ ap (λ n. n % p) (let turn : a + (p - a) % p ≡ (p - a) % p + a = omega arith in turn) ∙ opposites p a h

-- an entry 0 takes nothing away
unchanged : (p a v b : ℕ) → 0 < p → a ≡ 0 → v ≡ 0 → (v + (((p - a) % p) * b) % p) % p ≡ 0
unchanged p a v b positive e f =
    let none : (p - a) % p ≡ 0 = ap (λ n. (p - n) % p) e ∙ ap (λ n. n % p) (let whole : p - 0 ≡ p = omega arith in whole) ∙ mod_self p in
    ap (λ n. (n + (((p - a) % p) * b) % p) % p) f ∙ ap (λ n. (0 + (n * b) % p) % p) none ∙ ap (λ n. (0 + n % p) % p) (zero-mul b)
    ∙ ap (λ n. (0 + n) % p) (zero-mod p) ∙ ap (λ n. n % p) (add-zero 0) ∙ zero-mod p

-- what is left of an entry, once its row was cleared by the pivot that it gave
taken : (p after before w t r g u v : ℕ) → 0 < p → (after + w * t) % p ≡ (before + w * r) % p → (g + t) % p ≡ r % p → w % p ≡ (u * v) % p → (g * u) % p ≡ 1 % p → after % p ≡ (v + before) % p
taken p after before w t r g u v positive defect rest scaled one =
    let more : (before + w * r) % p ≡ (before + w * g + w * t) % p =
    sums p before (w * r) before (w * (g + t)) refl (multiples p w r (g + t) (sym rest)) ∙ ap (λ n. n % p) (let e : before + w * (g + t) ≡ before + w * g + w * t = omega (arith, mul-add w g t) in e) in
    let fewer : after % p ≡ (before + w * g) % p = cancel p after (before + w * g) (w * t) positive (defect ∙ more) in
    let value : (w * g) % p ≡ v % p =
    ap (λ n. n % p) (mul_comm w g) ∙ multiples p g w (u * v) scaled ∙ ap (λ n. n % p) (mul_comm g (u * v)) ∙ undone p g u v one in
    fewer ∙ sums p before (w * g) before v refl value ∙ ap (λ n. n % p) (let e : before + v ≡ v + before = omega arith in e)

-- ---- sums over the columns

-- what clearing changes in the sum of what the columns have: as much as the weight of the cleared column says
defect : (p : ℕ) (row : List ℕ) (column w : ℕ) (before after t : ℕ → ℕ) → ((c : ℕ) → c ≢ column → (after c + w * t c) % p ≡ before c % p) → after column % p ≡ w % p → before column ≡ 0 → t column ≡ 0 → (weigh row after + w * weigh row t) % p ≡ (weigh row before + w * get_or row column 0) % p
defect p row column w before after t others here none alone =
    let at : (c : ℕ) → (after c + w * t c) % p ≡ (before c + w * unit_at column c) % p =
    λ c. elim (cases_eq c column) [
      | inl same ↦
          ap (λ k. (after k + w * t k) % p) same ∙ ap (λ n. (after column + w * n) % p) alone ∙ ap (λ n. n % p) (ap (λ n. after column + n) (mul-zero w) ∙ add-zero _) ∙ here
          ∙ ap (λ n. n % p) (sym (zero-add w) ∙ ap (λ n. 0 + n) (sym (mul-one w)) ∙ ap (λ n. 0 + w * n) (sym (unit_at-here column)) ∙ ap (λ n. n + w * unit_at column column) (sym none))
          ∙ ap (λ k. (before k + w * unit_at column k) % p) (sym same)
      | inr other ↦
          others c other ∙ ap (λ n. n % p) (sym (add-zero (before c)) ∙ ap (λ n. before c + n) (sym (mul-zero w)) ∙ ap (λ n. before c + w * n) (sym (unit_at-other column c other)))
    ] in
    ap (λ n. n % p) (ap (λ n. weigh row after + n) (sym (weigh-scale w row t)) ∙ sym (weigh-add row after (λ c. w * t c)))
    ∙ weigh-same p row (λ c. after c + w * t c) (λ c. before c + w * unit_at column c) (λ c _. at c)
    ∙ ap (λ n. n % p) (weigh-add row before (λ c. w * unit_at column c) ∙ ap (λ n. weigh row before + n) (weigh-scale w row (unit_at column)) ∙ ap (λ n. weigh row before + w * n) (weigh-unit row column))

-- ---- one column

cleared_entry : (p column : ℕ) (pivot : Solved) (o after : Option Solved) → ((s : Solved) → o ≡ Some s → get_or s.entries column 0 < p) → IsCleared p column pivot o after → (x : ℕ) → (entry_at x after + get_or pivot.entries x 0 * entry_at column o) % p ≡ entry_at x o % p
cleared_entry p column pivot None after below is x =
    ap (λ o. (entry_at x o + get_or pivot.entries x 0 * 0) % p) is ∙ ap (λ n. n % p) (zero-add _ ∙ mul-zero (get_or pivot.entries x 0))
cleared_entry p column pivot (Some old) after below is x =
    let a : ℕ = get_or old.entries column 0 in
    let v : ℕ = get_or pivot.entries x 0 in
    ap (λ o. (entry_at x o + v * a) % p) is.1 ∙ ap (λ n. (n + v * a) % p) (is.2.is x) ∙ ap (λ n. ((get_or old.entries x 0 + (((p - a) % p) * v) % p) % p + n) % p) (mul_comm v a ∙ sym (zero-add _))
    ∙ subtracted p a v (get_or old.entries x 0) 0 (below old refl) ∙ ap (λ n. n % p) (add-zero (get_or old.entries x 0))

cleared_multiplier : (p column : ℕ) (pivot : Solved) (o after : Option Solved) → ((s : Solved) → o ≡ Some s → get_or s.entries column 0 < p) → IsCleared p column pivot o after → (i : ℕ) → (multiplier_at i after + get_or pivot.multipliers i 0 * entry_at column o) % p ≡ multiplier_at i o % p
cleared_multiplier p column pivot None after below is i =
    ap (λ o. (multiplier_at i o + get_or pivot.multipliers i 0 * 0) % p) is ∙ ap (λ n. n % p) (zero-add _ ∙ mul-zero (get_or pivot.multipliers i 0))
cleared_multiplier p column pivot (Some old) after below is i =
    let a : ℕ = get_or old.entries column 0 in
    let v : ℕ = get_or pivot.multipliers i 0 in
    ap (λ o. (multiplier_at i o + v * a) % p) is.1 ∙ ap (λ n. (n + v * a) % p) (is.3.is i) ∙ ap (λ n. ((get_or old.multipliers i 0 + (((p - a) % p) * v) % p) % p + n) % p) (mul_comm v a ∙ sym (zero-add _))
    ∙ subtracted p a v (get_or old.multipliers i 0) 0 (below old refl) ∙ ap (λ n. n % p) (add-zero (get_or old.multipliers i 0))

-- what a column has after clearing, and what it had before
pub record WasCleared (p column : ℕ) (pivot : Solved) (o : Option Solved) (s : Solved) : Type 0 where
  pub old : Solved
  pub had : o ≡ Some old
  pub entries : IsWithMultiple p (opposite_of p (get_or old.entries column 0)) old.entries pivot.entries s.entries
  pub multipliers : IsWithMultiple p (opposite_of p (get_or old.entries column 0)) old.multipliers pivot.multipliers s.multipliers

was_cleared : (p column : ℕ) (pivot : Solved) (o after : Option Solved) (s : Solved) → IsCleared p column pivot o after → after ≡ Some s → WasCleared p column pivot o s
was_cleared p column pivot None after s is has = let clash : None ≡ Some s = sym is ∙ has in cc
was_cleared p column pivot (Some old) after s is has =
    let same : is.0 ≡ s = let both : Some is.0 ≡ Some s = sym is.1 ∙ has in cc in
    record {
      old = old;
      had = refl;
      entries = subst (λ (n : Solved). IsWithMultiple p (opposite_of p (get_or old.entries column 0)) old.entries pivot.entries n.entries) same is.2;
      multipliers = subst (λ (n : Solved). IsWithMultiple p (opposite_of p (get_or old.entries column 0)) old.multipliers pivot.multipliers n.multipliers) same is.3;
    }

cleared_some : (p column : ℕ) (pivot : Solved) (o after : Option Solved) → IsCleared p column pivot o after → is_some after ≡ is_some o
cleared_some p column pivot None after is = ap is_some is
cleared_some p column pivot (Some old) after is = ap is_some is.1

-- one column more has something
counted_cons : (o : Option Solved) (rest : List (Option Solved)) → count_by is_some (o ∷ rest) ≡ cond (is_some o) 1 0 + count_by is_some rest
counted_cons o rest = sum_by-cons (λ s. cond (is_some s) 1 0) o rest

counted_same : (old new : List (Option Solved)) → length new ≡ length old → ((c : ℕ) → is_some (get_or new c None) ≡ is_some (get_or old c None)) → count_by is_some new ≡ count_by is_some old
counted_same [] [] size same = refl
counted_same [] (n ∷ new) size same = absurd (omega arith)
counted_same (o ∷ old) [] size same = absurd (omega arith)
counted_same (o ∷ old) (n ∷ new) size same =
    counted_cons n new ∙ ap (λ b. cond b 1 0 + count_by is_some new) (same 0) ∙ ap (λ k. cond (is_some o) 1 0 + k) (counted_same old new (omega arith) (λ c. same (suc c))) ∙ sym (counted_cons o old)

counted_more : (old new : List (Option Solved)) (k : ℕ) → length new ≡ length old → k < length old → is_some (get_or old k None) ≡ false → is_some (get_or new k None) ≡ true → ((c : ℕ) → c ≢ k → is_some (get_or new c None) ≡ is_some (get_or old c None)) → count_by is_some new ≡ count_by is_some old + 1
counted_more [] new k size within is_open filled same = absurd (omega arith)
counted_more (o ∷ old) [] k size within is_open filled same = absurd (omega arith)
counted_more (o ∷ old) (n ∷ new) zero size within is_open filled same =
    let rest : count_by is_some new ≡ count_by is_some old = counted_same old new (omega arith) (λ c. same (suc c) (suc-ne-zero c)) in
    let left : count_by is_some (n ∷ new) ≡ 1 + count_by is_some new = counted_cons n new ∙ ap (λ b. cond b 1 0 + count_by is_some new) filled in
    let right : count_by is_some (o ∷ old) ≡ 0 + count_by is_some old = counted_cons o old ∙ ap (λ b. cond b 1 0 + count_by is_some old) is_open in
    omega (arith, rest, left, right)
counted_more (o ∷ old) (n ∷ new) (suc k) size within is_open filled same =
    let rest : count_by is_some new ≡ count_by is_some old + 1 =
    counted_more old new k (omega arith) (omega arith) is_open filled (λ c other. same (suc c) (λ e. other (omega arith))) in
    let left : count_by is_some (n ∷ new) ≡ cond (is_some o) 1 0 + count_by is_some new =
    counted_cons n new ∙ ap (λ b. cond b 1 0 + count_by is_some new) (same 0 (λ e. suc-ne-zero k (sym e))) in
    omega (arith, rest, left, counted_cons o old)

-- ---- the whole step

module _ (p width : ℕ) (rows : List (List ℕ)) (place : ℕ) (e after : Eliminated) (sum : Solved) (t : IsTaking p width rows place e sum) (column : ℕ) (within : column < width) (last : (x : ℕ) → column < x → get_or sum.entries x 0 ≡ 0) (is_open : get_or e.solved.items column None ≡ None) (h : Solves p column sum e.solved.items after.solved.items) (cancelled : after.cancelled.items ≡ e.cancelled.items) where
  positive : 0 < p
  positive = omega (arith, t.large)

  one_is : 1 % p ≡ 1
  one_is = mod-eq_of_lt t.large

  pivot_one : get_or h.pivot.entries column 0 ≡ 1
  pivot_one = h.entries.is column ∙ ap (λ n. n % p) (mul_comm h.factor (get_or sum.entries column 0)) ∙ h.inverse.one

  pivot_none : (x : ℕ) → get_or sum.entries x 0 ≡ 0 → get_or h.pivot.entries x 0 ≡ 0
  pivot_none x none = h.entries.is x ∙ ap (λ n. (h.factor * n) % p) none ∙ ap (λ n. n % p) (mul-zero h.factor) ∙ zero-mod p

  pivot_multiplier_none : (i : ℕ) → i < place → get_or h.pivot.multipliers i 0 ≡ 0
  pivot_multiplier_none i below =
      h.multipliers.is i ∙ ap (λ n. (h.factor * n) % p) (first_multipliers p width rows place e sum t i (omega arith) ∙ unit_at-other place i (λ same. absurd (omega arith)))
      ∙ ap (λ n. n % p) (mul-zero h.factor) ∙ zero-mod p

  pivot_balanced : IsBalanced p rows h.pivot
  pivot_balanced = IsBalanced-multiple p h.factor rows sum h.pivot t.balanced h.entries h.multipliers

  -- what a column other than the pivot's has now, it had before
  had : (c : ℕ) (s : Solved) → c ≢ column → HasSum after.solved.items c s → WasCleared p column h.pivot (get_or e.solved.items c None) s
  had c s other has = was_cleared p column h.pivot (get_or e.solved.items c None) (get_or after.solved.items c None) s (h.cleared c other) has

  the_pivot : (s : Solved) → HasSum after.solved.items column s → h.pivot ≡ s
  the_pivot s has = let both : Some h.pivot ≡ Some s = sym h.is_pivot ∙ has in cc

  -- the pivot has 0 in each other column that has something
  pivot_apart : (d : ℕ) (other : Solved) → d ≢ column → HasSum after.solved.items d other → get_or h.pivot.entries d 0 ≡ 0
  pivot_apart d other ne has = let w = had d other ne has in pivot_none d (vanishes p width rows place e sum t d w.old w.had)

  pivot_solved : IsSolved p width rows after.solved.items column h.pivot
  pivot_solved = record {
    entries = record { size = h.entries.vector.size ∙ t.is_sum.entries.size; below = h.entries.vector.below };
    multipliers = record { size = h.multipliers.vector.size ∙ t.is_sum.multipliers.size; below = h.multipliers.vector.below };
    is_sum = pivot_balanced;
    one = pivot_one;
    apart = λ d other has ne. pivot_apart d other ne has;
    last = λ x behind. pivot_none x (last x behind);
  }

  cleared_solved : (c : ℕ) (s : Solved) → c ≢ column → HasSum after.solved.items c s → IsSolved p width rows after.solved.items c s
  cleared_solved c s ne has =
      let w = had c s ne has in
      let was = t.part.solved c w.old w.had in
      let below : (x : ℕ) → get_or w.old.entries x 0 < p = entry_below p width w.old.entries positive was.entries in
      record {
        entries = record { size = w.entries.vector.size ∙ was.entries.size; below = w.entries.vector.below };
        multipliers = record { size = w.multipliers.vector.size ∙ was.multipliers.size; below = w.multipliers.vector.below };
        is_sum = IsBalanced-with_multiple p (opposite_of p (get_or w.old.entries column 0)) rows w.old h.pivot s was.is_sum pivot_balanced w.entries w.multipliers;
        one = w.entries.is c ∙ added_none p (get_or w.old.entries c 0) _ (get_or h.pivot.entries c 0) (below c) (pivot_apart c s ne has) ∙ was.one;
        apart = λ d other has' differ. elim (cases_eq d column) [
          | inl same ↦ ap (λ k. get_or s.entries k 0) same ∙ w.entries.is column ∙ cleared_here p (get_or w.old.entries column 0) (get_or h.pivot.entries column 0) (below column) pivot_one
          | inr elsewhere ↦
              let v = had d other elsewhere has' in
              w.entries.is d ∙ added_none p (get_or w.old.entries d 0) _ (get_or h.pivot.entries d 0) (below d) (pivot_apart d other elsewhere has') ∙ was.apart d v.old v.had differ
        ];
        last = λ x behind. elim (cases_lt column x) [
          | inl past ↦ w.entries.is x ∙ added_none p (get_or w.old.entries x 0) _ (get_or h.pivot.entries x 0) (below x) (pivot_none x (last x past)) ∙ was.last x behind
          | inr before ↦ w.entries.is x ∙ unchanged p (get_or w.old.entries column 0) (get_or w.old.entries x 0) (get_or h.pivot.entries x 0) positive (was.last column (omega arith)) (was.last x behind)
        ];
      }

  solved_after : (c : ℕ) (s : Solved) → HasSum after.solved.items c s → IsSolved p width rows after.solved.items c s
  solved_after c s has =
      elim (cases_eq c column) [
        | inl same ↦
            let here : HasSum after.solved.items column s = sym (ap (λ k. get_or after.solved.items k None) same) ∙ has in
            subst (λ k. IsSolved p width rows after.solved.items k s) (sym same) (subst (IsSolved p width rows after.solved.items column) (the_pivot s here) pivot_solved)
        | inr other ↦ cleared_solved c s other has
      ]

  untaken_after : (c : ℕ) (s : Solved) → HasSum after.solved.items c s → (i : ℕ) → i < place → get_or s.multipliers i 0 ≡ 0
  untaken_after c s has i below =
      elim (cases_eq c column) [
        | inl same ↦
            let here : HasSum after.solved.items column s = sym (ap (λ k. get_or after.solved.items k None) same) ∙ has in
            ap (λ (n : Solved). get_or n.multipliers i 0) (sym (the_pivot s here)) ∙ pivot_multiplier_none i below
        | inr other ↦
            let w = had c s other has in
            let was = t.part.solved c w.old w.had in
            w.multipliers.is i ∙ added_none p (get_or w.old.multipliers i 0) _ (get_or h.pivot.multipliers i 0) (entry_below p (length rows) w.old.multipliers positive was.multipliers i) (pivot_multiplier_none i below)
            ∙ t.part.untaken c w.old w.had i (omega arith)
      ]

  entry_bound : (c : ℕ) (s : Solved) → get_or e.solved.items c None ≡ Some s → get_or s.entries column 0 < p
  entry_bound c s has = entry_below p width s.entries positive (t.part.solved c s has).entries column

  -- the sums over the columns, before and after
  entries_defect : (row : List ℕ) (x : ℕ) → (dot row (entries_at x after.solved.items) + get_or h.pivot.entries x 0 * dot row (entries_at column e.solved.items)) % p ≡ (dot row (entries_at x e.solved.items) + get_or h.pivot.entries x 0 * get_or row column 0) % p
  entries_defect row x =
      let before : ℕ → ℕ = λ c. get_or (entries_at x e.solved.items) c 0 in
      let now : ℕ → ℕ = λ c. get_or (entries_at x after.solved.items) c 0 in
      let there : ℕ → ℕ = λ c. get_or (entries_at column e.solved.items) c 0 in
      let w : ℕ = get_or h.pivot.entries x 0 in
      ap (λ n. (n + w * dot row (entries_at column e.solved.items)) % p) (dot-weigh row (entries_at x after.solved.items)) ∙ ap (λ n. (weigh row now + w * n) % p) (dot-weigh row (entries_at column e.solved.items))
      ∙ defect p row column w before now there
      (λ c other. ap (λ n. (n + w * there c) % p) (entries_at-at x after.solved.items c) ∙ ap (λ n. (entry_at x (get_or after.solved.items c None) + w * n) % p) (entries_at-at column e.solved.items c)
      ∙ cleared_entry p column h.pivot (get_or e.solved.items c None) (get_or after.solved.items c None) (entry_bound c) (h.cleared c other) x ∙ ap (λ n. n % p) (sym (entries_at-at x e.solved.items c)))
      (ap (λ n. n % p) (entries_at-at x after.solved.items column ∙ ap (entry_at x) h.is_pivot))
      (entries_at-at x e.solved.items column ∙ ap (entry_at x) is_open)
      (entries_at-at column e.solved.items column ∙ ap (entry_at column) is_open)
      ∙ ap (λ n. (n + w * get_or row column 0) % p) (sym (dot-weigh row (entries_at x e.solved.items)))

  multipliers_defect : (row : List ℕ) (i : ℕ) → (dot row (multipliers_at i after.solved.items) + get_or h.pivot.multipliers i 0 * dot row (entries_at column e.solved.items)) % p ≡ (dot row (multipliers_at i e.solved.items) + get_or h.pivot.multipliers i 0 * get_or row column 0) % p
  multipliers_defect row i =
      let before : ℕ → ℕ = λ c. get_or (multipliers_at i e.solved.items) c 0 in
      let now : ℕ → ℕ = λ c. get_or (multipliers_at i after.solved.items) c 0 in
      let there : ℕ → ℕ = λ c. get_or (entries_at column e.solved.items) c 0 in
      let w : ℕ = get_or h.pivot.multipliers i 0 in
      ap (λ n. (n + w * dot row (entries_at column e.solved.items)) % p) (dot-weigh row (multipliers_at i after.solved.items)) ∙ ap (λ n. (weigh row now + w * n) % p) (dot-weigh row (entries_at column e.solved.items))
      ∙ defect p row column w before now there
      (λ c other. ap (λ n. (n + w * there c) % p) (multipliers_at-at i after.solved.items c) ∙ ap (λ n. (multiplier_at i (get_or after.solved.items c None) + w * n) % p) (entries_at-at column e.solved.items c)
      ∙ cleared_multiplier p column h.pivot (get_or e.solved.items c None) (get_or after.solved.items c None) (entry_bound c) (h.cleared c other) i ∙ ap (λ n. n % p) (sym (multipliers_at-at i e.solved.items c)))
      (ap (λ n. n % p) (multipliers_at-at i after.solved.items column ∙ ap (multiplier_at i) h.is_pivot))
      (multipliers_at-at i e.solved.items column ∙ ap (multiplier_at i) is_open)
      (entries_at-at column e.solved.items column ∙ ap (entry_at column) is_open)
      ∙ ap (λ n. (n + w * get_or row column 0) % p) (sym (dot-weigh row (multipliers_at i e.solved.items)))

  -- a row behind keeps its sums
  kept : (row : List ℕ) (now before w : ℕ) → get_or row column 0 ≡ dot row (entries_at column e.solved.items) % p → (now + w * dot row (entries_at column e.solved.items)) % p ≡ (before + w * get_or row column 0) % p → now % p ≡ before % p
  kept row now before w there changed =
      let d : ℕ = dot row (entries_at column e.solved.items) in
      cancel p now before (w * d) positive (changed ∙ sums p before (w * get_or row column 0) before (w * d) refl (multiples p w (get_or row column 0) d (ap (λ n. n % p) there ∙ mod-mod d p)))

  -- the row itself
  row_sum : (x : ℕ) → get_or (get_or rows place []) x 0 ≡ dot (get_or rows place []) (entries_at x after.solved.items) % p
  row_sum x =
      let row = get_or rows place [] in
      sym (t.entries x)
      ∙ sym (taken p (dot row (entries_at x after.solved.items)) (dot row (entries_at x e.solved.items)) (get_or h.pivot.entries x 0) (dot row (entries_at column e.solved.items)) (get_or row column 0) (get_or sum.entries column 0) h.factor (get_or sum.entries x 0)
      positive (entries_defect row x) (sym (mod-mod _ p) ∙ ap (λ n. n % p) (t.entries column)) (ap (λ n. n % p) (h.entries.is x) ∙ mod-mod _ p) (h.inverse.one ∙ sym one_is))

  row_unit : (i : ℕ) → i < length rows → unit_at place i ≡ dot (get_or rows place []) (multipliers_at i after.solved.items) % p
  row_unit i inside =
      let row = get_or rows place [] in
      sym (t.multipliers i inside)
      ∙ sym (taken p (dot row (multipliers_at i after.solved.items)) (dot row (multipliers_at i e.solved.items)) (get_or h.pivot.multipliers i 0) (dot row (entries_at column e.solved.items)) (get_or row column 0) (get_or sum.entries column 0) h.factor (get_or sum.multipliers i 0)
      positive (multipliers_defect row i) (sym (mod-mod _ p) ∙ ap (λ n. n % p) (t.entries column)) (ap (λ n. n % p) (h.multipliers.is i) ∙ mod-mod _ p) (h.inverse.one ∙ sym one_is))

  spans_after : (j : ℕ) → place ≤ j → j < length rows → (x : ℕ) → get_or (get_or rows j []) x 0 ≡ dot (get_or rows j []) (entries_at x after.solved.items) % p
  spans_after j low high x =
      elim (cases_eq j place) [
        | inl same ↦ subst (λ k. get_or (get_or rows k []) x 0 ≡ dot (get_or rows k []) (entries_at x after.solved.items) % p) (sym same) (row_sum x)
        | inr other ↦
            let row = get_or rows j [] in
            t.part.spans j (omega arith) high x ∙ sym (kept row (dot row (entries_at x after.solved.items)) (dot row (entries_at x e.solved.items)) (get_or h.pivot.entries x 0) (t.part.spans j (omega arith) high column) (entries_defect row x))
      ]

  backed_behind : (j : ℕ) → place < j → j < length rows → IsBacked p rows after j
  backed_behind j low high =
      let row = get_or rows j [] in
      let b = t.part.backed j (omega arith) high in
      record {
        weights = b.weights;
        size = b.size ∙ ap length (sym cancelled);
        is = λ i inside.
            let d : ℕ = dot b.weights (column_of i e.cancelled.items) in
            b.is i inside
            ∙ sums p (dot row (multipliers_at i e.solved.items)) d (dot row (multipliers_at i after.solved.items)) d
            (sym (kept row (dot row (multipliers_at i after.solved.items)) (dot row (multipliers_at i e.solved.items)) (get_or h.pivot.multipliers i 0) (t.part.spans j (omega arith) high column) (multipliers_defect row i))) refl
            ∙ ap (λ zs. (dot row (multipliers_at i after.solved.items) + dot b.weights (column_of i zs)) % p) (sym cancelled);
      }

  backed_row : IsBacked p rows after place
  backed_row = record {
    weights = replicate (length after.cancelled.items) 0;
    size = length-replicate (length after.cancelled.items) 0;
    is = λ i inside.
        row_unit i inside ∙ ap (λ n. n % p) (sym (add-zero (dot (get_or rows place []) (multipliers_at i after.solved.items))))
        ∙ ap (λ n. (dot (get_or rows place []) (multipliers_at i after.solved.items) + n) % p) (sym (dot-zeros (length after.cancelled.items) (column_of i after.cancelled.items)));
  }

  backed_after : (j : ℕ) → place ≤ j → j < length rows → IsBacked p rows after j
  backed_after j low high =
      elim (cases_eq j place) [
        | inl same ↦ subst (IsBacked p rows after) (sym same) backed_row
        | inr other ↦ backed_behind j (omega arith) high
      ]

  pub partial_solved : IsPartial p width rows place after
  partial_solved =
      let part : IsPartial p width rows (place + 1) e = t.part in
      let more : count_by is_some after.solved.items ≡ count_by is_some e.solved.items + 1 =
      counted_more e.solved.items after.solved.items column h.columns (omega (arith, part.columns, within)) (ap is_some is_open) (ap is_some h.is_pivot)
      (λ c other. cleared_some p column h.pivot (get_or e.solved.items c None) (get_or after.solved.items c None) (h.cleared c other)) in
      record {
        columns = h.columns ∙ part.columns;
        counted = omega (arith, part.counted, more, ap length cancelled);
        solved = solved_after;
        untaken = untaken_after;
        cancelled = subst (All (IsCancelled p rows)) (sym cancelled) part.cancelled;
        spans = spans_after;
        backed = backed_after;
      }
