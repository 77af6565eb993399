-- A row that is taken: what is left of it once all that is solved was subtracted.
use Rattle.std.proofs.Common.{◌≡◌, ◌≢◌, ℕ, ◌+◌, ◌%◌, ◌<◌, List, [], length, get_or, All, Option, Some, None, refl, sym, ap, ◌∙◌, subst, arith, add-zero, inl, inr}
use Rattle.std.proofs.Math.Nat.{mod-eq_of_lt, zero-mod}
use Rattle.std.proofs.lemmas.Bool.{cases_eq, cases_lt}
use Rattle.std.proofs.lemmas.List.{get_or_past}
use Rattle.matrix_elimination.specs.declared.elimination.Solved.{Solved}
use Rattle.matrix_elimination.specs.declared.elimination.Eliminated.{Eliminated}
use Rattle.matrix_elimination.specs.Vectors.{dot, column, unit_at, IsVector}
use Rattle.matrix_elimination.specs.Elimination.{entry_at, multiplier_at, entries_at, multipliers_at, HasSum, IsSolved}
use Rattle.matrix_elimination.specs.Steps.{IsSum, AreSums, IsRest, IsPartial}
use Rattle.matrix_elimination.proofs.Congruences.{cancel}
use Rattle.matrix_elimination.proofs.Weights.{dot-weigh, weigh-equal, weigh-unit, weigh-none, unit_at-here, unit_at-other}
use Rattle.matrix_elimination.proofs.Reducing.{entries_at-at, multipliers_at-at, IsSum-resized}
use Rattle.matrix_elimination.proofs.Balance.{IsBalanced, IsBalanced-unit, IsBalanced-rest}

-- an entry of a vector of residues, also past its end
pub entry_below : (p n : ℕ) (v : List ℕ) → 0 < p → IsVector p n v → (k : ℕ) → get_or v k 0 < p
entry_below p n v positive is k =
    elim (cases_lt k (length v)) [
      | inl inside ↦ is.below k 0 inside
      | inr past ↦ omega (arith, get_or_past v k 0 past)
    ]

-- `sum` is the row at `place` without what is solved of the rows behind it
pub record IsTaking (p width : ℕ) (rows : List (List ℕ)) (place : ℕ) (e : Eliminated) (sum : Solved) : Type 0 where
  pub large : 1 < p
  pub within : place < length rows
  pub vectors : All (IsVector p width) rows
  pub part : IsPartial p width rows (place + 1) e
  pub is_sum : IsSum p width (length rows) sum
  pub entries : (x : ℕ) → (get_or sum.entries x 0 + dot (get_or rows place []) (entries_at x e.solved.items)) % p ≡ get_or (get_or rows place []) x 0
  pub multipliers : (i : ℕ) → i < length rows → (get_or sum.multipliers i 0 + dot (get_or rows place []) (multipliers_at i e.solved.items)) % p ≡ unit_at place i
  pub balanced : IsBalanced p rows sum

pub taking : (p width : ℕ) (rows : List (List ℕ)) (place : ℕ) (e : Eliminated) (old sum : Solved) → 1 < p → place < length rows → All (IsVector p width) rows → IsPartial p width rows (place + 1) e → IsSum p width (length rows) sum → old.entries ≡ get_or rows place [] → length old.multipliers ≡ length rows → ((i : ℕ) → i < length rows → get_or old.multipliers i 0 ≡ unit_at place i) → IsRest p (get_or rows place []) e.solved.items old sum → IsTaking p width rows place e sum
taking p width rows place e old sum large within vectors part is_sum is size unit rest =
    let row_below : (x : ℕ) → get_or old.entries x 0 < p = λ x. omega (arith, ap (λ es. get_or es x 0) is, entry_below p width (get_or rows place []) (omega arith) (vectors place [] within) x) in
    record {
      large = large;
      within = within;
      vectors = vectors;
      part = part;
      is_sum = is_sum;
      entries = λ x. rest.entries x ∙ ap (λ es. get_or es x 0) is;
      multipliers = λ i h. rest.multipliers i ∙ unit i h;
      balanced = IsBalanced-rest p rows (get_or rows place []) e.solved.items old sum (omega arith) (entry_below p width sum.entries (omega arith) is_sum.entries) (λ c s has. (part.solved c s has).is_sum)
          (IsBalanced-unit p rows place old within size unit row_below is) rest;
    }

-- what a column has in a column that is solved: 1 in its own
solved_entry : (p width : ℕ) (rows : List (List ℕ)) (solved : List (Option Solved)) (d : ℕ) (s : Solved) → HasSum solved d s → ((c : ℕ) (t : Solved) → HasSum solved c t → IsSolved p width rows solved c t) → (c : ℕ) (o : Option Solved) → get_or solved c None ≡ o → entry_at d o ≡ unit_at d c
solved_entry p width rows solved d s has each c None is =
    elim (cases_eq c d) [
      | inl same ↦ let clash : None ≡ Some s = sym is ∙ ap (λ k. get_or solved k None) same ∙ has in cc
      | inr other ↦ sym (unit_at-other d c other)
    ]
solved_entry p width rows solved d s has each c (Some t) is =
    elim (cases_eq c d) [
      | inl same ↦ ap (λ k. get_or t.entries k 0) (sym same) ∙ (each c t is).one ∙ sym (unit_at-here d) ∙ ap (unit_at d) (sym same)
      | inr other ↦ (each c t is).apart d s has (λ e. other (sym e)) ∙ sym (unit_at-other d c other)
    ]

-- what is left has 0 in each column that is solved
pub vanishes : (p width : ℕ) (rows : List (List ℕ)) (place : ℕ) (e : Eliminated) (sum : Solved) → IsTaking p width rows place e sum → (d : ℕ) (s : Solved) → HasSum e.solved.items d s → get_or sum.entries d 0 ≡ 0
vanishes p width rows place e sum t d s has =
    let row = get_or rows place [] in
    let solved = e.solved.items in
    let own : dot row (entries_at d solved) ≡ get_or row d 0 =
    dot-weigh row (entries_at d solved)
    ∙ weigh-equal row (λ c. get_or (entries_at d solved) c 0) (unit_at d) (λ c _. entries_at-at d solved c ∙ solved_entry p width rows solved d s has t.part.solved c (get_or solved c None) refl)
    ∙ weigh-unit row d in
    let row_below : get_or row d 0 < p = entry_below p width row (omega (arith, t.large)) (t.vectors place [] t.within) d in
    let whole : (get_or sum.entries d 0 + get_or row d 0) % p ≡ (0 + get_or row d 0) % p =
    ap (λ n. (get_or sum.entries d 0 + n) % p) (sym own) ∙ t.entries d ∙ sym (mod-eq_of_lt row_below) ∙ ap (λ n. n % p) (omega arith) in
    sym (mod-eq_of_lt (entry_below p width sum.entries (omega (arith, t.large)) t.is_sum.entries d)) ∙ cancel p (get_or sum.entries d 0) 0 (get_or row d 0) (omega (arith, t.large)) whole ∙ zero-mod p

untaken_multiplier : (i k : ℕ) (solved : List (Option Solved)) → i < k → ((c : ℕ) (s : Solved) → HasSum solved c s → (i : ℕ) → i < k → get_or s.multipliers i 0 ≡ 0) → (c : ℕ) (o : Option Solved) → get_or solved c None ≡ o → multiplier_at i o ≡ 0
untaken_multiplier i k solved h untaken c None is = refl
untaken_multiplier i k solved h untaken c (Some s) is = untaken c s is i h

-- of the rows up to its own it has just its own
pub first_multipliers : (p width : ℕ) (rows : List (List ℕ)) (place : ℕ) (e : Eliminated) (sum : Solved) → IsTaking p width rows place e sum → (i : ℕ) → i < place + 1 → get_or sum.multipliers i 0 ≡ unit_at place i
first_multipliers p width rows place e sum t i h =
    let row = get_or rows place [] in
    let solved = e.solved.items in
    let nothing : dot row (multipliers_at i solved) ≡ 0 =
    dot-weigh row (multipliers_at i solved)
    ∙ weigh-equal row (λ c. get_or (multipliers_at i solved) c 0) (λ _. 0) (λ c _. multipliers_at-at i solved c ∙ untaken_multiplier i (place + 1) solved h t.part.untaken c (get_or solved c None) refl)
    ∙ weigh-none row in
    sym (mod-eq_of_lt (entry_below p (length rows) sum.multipliers (omega (arith, t.large)) t.is_sum.multipliers i))
    ∙ ap (λ n. n % p) (sym (add-zero (get_or sum.multipliers i 0)) ∙ ap (λ n. get_or sum.multipliers i 0 + n) (sym nothing)) ∙ t.multipliers i (omega (arith, t.within))

-- the sums of the columns have the sizes of the matrix
pub column_sums : (p width : ℕ) (rows : List (List ℕ)) (place height : ℕ) (e : Eliminated) (solved : List (Option Solved)) → IsPartial p width rows place e → solved ≡ e.solved.items → height ≡ length rows → AreSums p (length solved) height solved
column_sums p width rows place height e solved part same size c s has =
    let was = part.solved c s (sym (ap (λ ss. get_or ss c None) same) ∙ has) in
    IsSum-resized p width (length rows) (length solved) height s (sym part.columns ∙ sym (ap length same)) (sym size) (record { entries = was.entries; multipliers = was.multipliers })

-- the same from the calls of the code, which have the row and the columns under other names
pub taking_row : (p width : ℕ) (rows : List (List ℕ)) (place : ℕ) (e : Eliminated) (old sum : Solved) (row : List ℕ) (solved : List (Option Solved)) → 1 < p → place < length rows → All (IsVector p width) rows → IsPartial p width rows (place + 1) e → row ≡ get_or rows place [] → solved ≡ e.solved.items → old.entries ≡ row → length old.multipliers ≡ length rows → ((i : ℕ) → i < length rows → get_or old.multipliers i 0 ≡ unit_at place i) → IsSum p (length solved) (length old.multipliers) sum → IsRest p row solved old sum → IsTaking p width rows place e sum
taking_row p width rows place e old sum row solved large within vectors part is same copied size unit sizes rest =
    taking p width rows place e old sum large within vectors part (IsSum-resized p _ _ width (length rows) sum (ap length same ∙ part.columns) size sizes) (copied ∙ is) size unit
    (subst (λ r. IsRest p r e.solved.items old sum) is (subst (λ ss. IsRest p row ss old sum) same rest))

-- a column where something is left is open
pub opens : (p width : ℕ) (rows : List (List ℕ)) (place : ℕ) (e : Eliminated) (sum : Solved) → IsTaking p width rows place e sum → (column : ℕ) → get_or sum.entries column 0 ≢ 0 → get_or e.solved.items column None ≡ None
opens p width rows place e sum t column some = go (get_or e.solved.items column None) refl
  where
    go : (o : Option Solved) → get_or e.solved.items column None ≡ o → get_or e.solved.items column None ≡ None
    go None is = is
    go (Some s) is = absurd (some (vanishes p width rows place e sum t column s is))
