-- What an elimination says of the solutions of a linear system.
use Rattle.std.proofs.Common.{◌≡◌, ◌≢◌, ℕ, zero, suc, ◌+◌, ◌-◌, ◌%◌, ◌<◌, List, [], ◌∷◌, length, get_or, All, Option, Some, None, IfSome, refl, sym, ap, ◌∙◌, subst, arith, add-zero, zero-add, inl, inr}
use Rattle.std.proofs.Math.Nat.{mod-eq_of_lt, mod-mod, zero-mod, mod-lt, mod_self}
use Rattle.std.proofs.lemmas.Bool.{cases_eq}
use Rattle.std.proofs.lemmas.List.{length-map, get_or_default}
use Rattle.std.proofs.lemmas.Grind.{same_number_lists}
use Rattle.matrix_elimination.specs.declared.elimination.Solved.{Solved}
use Rattle.matrix_elimination.specs.declared.elimination.Eliminated.{Eliminated}
use Rattle.matrix_elimination.specs.Vectors.{dot, column, unit_at, IsVector}
use Rattle.matrix_elimination.specs.Elimination.{entry_at, multiplier_at, entries_at, multipliers_at, HasSum, IsElimination}
use Rattle.matrix_elimination.specs.Systems.{IsSolution, IsOnlySolution, IsOpen}
use Rattle.matrix_elimination.specs.Solutions.{unknown_at, solution_of, open_entry}
use Rattle.matrix_elimination.proofs.Congruences.{sums, cancel, opposites}
use Rattle.matrix_elimination.proofs.Weights.{weigh, dot-weigh, dot-comm, weigh-same, weigh-equal, weigh-add, weigh-unit, weigh-none, weigh-turn, dot-columns, column-at, unit_at-here, unit_at-other}
use Rattle.matrix_elimination.proofs.Reducing.{entries_at-at, multipliers_at-at}
use Rattle.matrix_elimination.proofs.Taking.{entry_below}

turned : (ms zs : List ℕ) → dot ms zs ≡ weigh zs (λ k. get_or ms k 0)
turned ms zs = dot-comm ms zs ∙ dot-weigh zs ms

solution_of-at : (p : ℕ) (solved : List (Option Solved)) (values : List ℕ) (c : ℕ) → get_or (solution_of p solved values) c 0 ≡ unknown_at p values (get_or solved c None)
solution_of-at p [] values c = refl
solution_of-at p (s ∷ solved) values zero = refl
solution_of-at p (s ∷ solved) values (suc c) = solution_of-at p solved values c

unknown_below : (p : ℕ) (values : List ℕ) (o : Option Solved) → 0 < p → unknown_at p values o < p
unknown_below p values None positive = positive
unknown_below p values (Some s) positive = mod-lt (dot s.multipliers values) positive

IsVector-solution : (p : ℕ) (solved : List (Option Solved)) (values : List ℕ) → 0 < p → IsVector p (length solved) (solution_of p solved values)
IsVector-solution p solved values positive = record {
  size = length-map solved (λ s. unknown_at p values s);
  below = λ k d h.
      let at : get_or (solution_of p solved values) k d ≡ unknown_at p values (get_or solved k None) =
      get_or_default (solution_of p solved values) k d 0 h ∙ solution_of-at p solved values k in
      omega (arith, at, unknown_below p values (get_or solved k None) positive);
}

-- an unknown weighs the values by the multipliers of its column
unknown-weigh : (p : ℕ) (values : List ℕ) (o : Option Solved) → unknown_at p values o % p ≡ weigh values (λ i. multiplier_at i o) % p
unknown-weigh p values None = ap (λ n. n % p) (sym (weigh-none values))
unknown-weigh p values (Some s) = mod-mod (dot s.multipliers values) p ∙ ap (λ n. n % p) (turned s.multipliers values)

-- ---- the solution meets each row, where no cancelled multipliers tell otherwise

pub meets : (p width : ℕ) (rows : List (List ℕ)) (values : List ℕ) (e : Eliminated) → 1 < p → IsElimination p width rows e → IsVector p (length rows) values → All (λ z. dot z values % p ≡ 0) e.cancelled.items → (j : ℕ) → j < length rows → dot (get_or rows j []) (solution_of p e.solved.items values) % p ≡ get_or values j 0
meets p width rows values e large is vector cancels j within =
    let row = get_or rows j [] in
    let solved = e.solved.items in
    let zs = e.cancelled.items in
    let b = is.backed j within in
    let m : ℕ → ℕ → ℕ = λ c i. multiplier_at i (get_or solved c None) in
    let total : ℕ = weigh values (λ i. dot row (multipliers_at i solved)) in
    let rest : ℕ = weigh values (λ i. dot b.weights (column i zs)) in
    -- the sum over the columns, turned
    let whole : dot row (solution_of p solved values) % p ≡ total % p =
    ap (λ n. n % p) (dot-weigh row (solution_of p solved values))
    ∙ weigh-same p row (λ c. get_or (solution_of p solved values) c 0) (λ c. weigh values (λ i. m c i)) (λ c _. ap (λ n. n % p) (solution_of-at p solved values c) ∙ unknown-weigh p values (get_or solved c None))
    ∙ ap (λ n. n % p) (weigh-turn row values m
    ∙ weigh-equal values (λ i. weigh row (λ c. m c i)) (λ i. dot row (multipliers_at i solved)) (λ i _. sym (dot-weigh row (multipliers_at i solved) ∙ weigh-equal row (λ c. get_or (multipliers_at i solved) c 0) (λ c. m c i) (λ c _. multipliers_at-at i solved c)))) in
    -- the cancelled multipliers have no part
    let each : (k : ℕ) → k < length b.weights → weigh values (λ i. get_or (get_or zs k []) i 0) % p ≡ 0 % p =
    λ k h. ap (λ n. n % p) (sym (turned (get_or zs k []) values)) ∙ cancels k [] (omega (arith, b.size)) ∙ sym (zero-mod p) in
    let none : rest % p ≡ 0 % p =
    ap (λ n. n % p) (weigh-equal values (λ i. dot b.weights (column i zs)) (λ i. weigh b.weights (λ k. get_or (get_or zs k []) i 0)) (λ i _. dot-weigh b.weights (column i zs) ∙ weigh-equal b.weights (λ k. get_or (column i zs) k 0) (λ k. get_or (get_or zs k []) i 0) (λ k _. column-at i zs k))
    ∙ weigh-turn values b.weights (λ i k. get_or (get_or zs k []) i 0))
    ∙ weigh-same p b.weights (λ k. weigh values (λ i. get_or (get_or zs k []) i 0)) (λ _. 0) each ∙ ap (λ n. n % p) (weigh-none b.weights) in
    let unit : (total + rest) % p ≡ get_or values j 0 % p =
    ap (λ n. n % p) (sym (weigh-add values (λ i. dot row (multipliers_at i solved)) (λ i. dot b.weights (column i zs))))
    ∙ weigh-same p values (λ i. dot row (multipliers_at i solved) + dot b.weights (column i zs)) (unit_at j) (λ i h. sym (mod-mod _ p) ∙ ap (λ n. n % p) (sym (b.is i (omega (arith, vector.size)))))
    ∙ ap (λ n. n % p) (weigh-unit values j) in
    whole ∙ ap (λ n. n % p) (sym (add-zero total)) ∙ sums p total 0 total rest refl (sym none) ∙ unit ∙ mod-eq_of_lt (entry_below p (length rows) values (omega arith) vector j)

pub is_solution : (p width : ℕ) (rows : List (List ℕ)) (values : List ℕ) (e : Eliminated) → 1 < p → IsElimination p width rows e → IsVector p (length rows) values → All (λ z. dot z values % p ≡ 0) e.cancelled.items → IsSolution p width rows values (solution_of p e.solved.items values)
is_solution p width rows values e large is vector cancels = record {
  vector = subst (λ n. IsVector p n (solution_of p e.solved.items values)) is.columns (IsVector-solution p e.solved.items values (omega arith));
  meets = meets p width rows values e large is vector cancels;
}

-- ---- where all columns are solved, no other solution is there

-- a solved column has just its own unknown
own_entry : (p width : ℕ) (rows : List (List ℕ)) (e : Eliminated) → IsElimination p width rows e → All (λ s. s ≢ None) e.solved.items → (c : ℕ) (s : Solved) → HasSum e.solved.items c s → (d : ℕ) → d < width → get_or s.entries d 0 ≡ unit_at c d
own_entry p width rows e is closed c s has d within =
    elim (cases_eq d c) [
      | inl same ↦ ap (λ k. get_or s.entries k 0) same ∙ (is.solved c s has).one ∙ sym (unit_at-here c) ∙ ap (unit_at c) (sym same)
      | inr other ↦
          let found = found_sum e.solved.items d (omega (arith, is.columns)) closed in
          (is.solved c s has).apart d found.0 found.1 other ∙ sym (unit_at-other c d other)
    ]
  where
    found_at : (o : Option Solved) → o ≢ None → (s : Solved) × (o ≡ Some s)
    found_at None h = absurd (h refl)
    found_at (Some s) h = (s, refl)

    found_sum : (solved : List (Option Solved)) (d : ℕ) → d < length solved → All (λ s. s ≢ None) solved → (s : Solved) × HasSum solved d s
    found_sum solved d h closed = found_at (get_or solved d None) (closed d None h)

-- a solution's unknown is the one that the multipliers make of the values
forced : (p width : ℕ) (rows : List (List ℕ)) (values other : List ℕ) (e : Eliminated) → 1 < p → IsElimination p width rows e → All (λ s. s ≢ None) e.solved.items → IsVector p (length rows) values → IsSolution p width rows values other → (c : ℕ) (s : Solved) → HasSum e.solved.items c s → get_or other c 0 ≡ dot s.multipliers values % p
forced p width rows values other e large is closed vector solution c s has =
    let entries : weigh other (unit_at c) % p ≡ weigh other (λ x. dot s.multipliers (column x rows)) % p =
    weigh-same p other (unit_at c) (λ x. dot s.multipliers (column x rows)) (λ x h.
    ap (λ n. n % p) (sym (own_entry p width rows e is closed c s has x (omega (arith, solution.vector.size))) ∙ (is.solved c s has).is_sum x) ∙ mod-mod _ p) in
    let turn = dot-columns other s.multipliers rows in
    let met : weigh s.multipliers (λ j. dot (get_or rows j []) other) % p ≡ weigh s.multipliers (λ j. get_or values j 0) % p =
    weigh-same p s.multipliers (λ j. dot (get_or rows j []) other) (λ j. get_or values j 0) (λ j h.
    sym (mod-mod _ p) ∙ ap (λ n. n % p) (solution.meets j (omega (arith, (is.solved c s has).multipliers.size)))) in
    sym (mod-eq_of_lt (entry_below p width other (omega arith) solution.vector c)) ∙ ap (λ n. n % p) (sym (weigh-unit other c)) ∙ entries ∙ ap (λ n. n % p) turn ∙ met ∙ ap (λ n. n % p) (sym (dot-weigh s.multipliers values))

pub is_only_solution : (p width : ℕ) (rows : List (List ℕ)) (values : List ℕ) (e : Eliminated) → 1 < p → IsElimination p width rows e → IsVector p (length rows) values → All (λ z. dot z values % p ≡ 0) e.cancelled.items → All (λ s. s ≢ None) e.solved.items → IsOnlySolution p width rows values (solution_of p e.solved.items values)
is_only_solution p width rows values e large is vector cancels closed = record {
  is = is_solution p width rows values e large is vector cancels;
  only = λ other solution.
      same_number_lists other (solution_of p e.solved.items values) (solution.vector.size ∙ sym is.columns ∙ sym (length-map e.solved.items (λ s. unknown_at p values s)))
      (λ c h. same other solution c (omega (arith, solution.vector.size, is.columns)) (get_or e.solved.items c None) refl ∙ sym (solution_of-at p e.solved.items values c));
}
  where
    same : (other : List ℕ) → IsSolution p width rows values other → (c : ℕ) → c < length e.solved.items → (o : Option Solved) → get_or e.solved.items c None ≡ o → get_or other c 0 ≡ unknown_at p values (get_or e.solved.items c None)
    same other solution c h None none = absurd (closed c None h none)
    same other solution c h (Some s) has = forced p width rows values other e large is closed vector solution c s has ∙ sym (ap (unknown_at p values) has)

-- ---- an open column leaves its unknown open

-- its vector and what the columns have there are the unit vector of the column
open_sum : (p column k : ℕ) (o : Option Solved) → ((s : Solved) → o ≡ Some s → (get_or s.entries column 0 < p) × (k ≢ column)) → (open_entry p column k o + entry_at column o) % p ≡ unit_at column k % p
open_sum p column k None h = ap (λ n. n % p) (add-zero (unit_at column k))
open_sum p column k (Some s) h =
    let known = h s refl in
    opposites p (get_or s.entries column 0) known.0 ∙ sym (zero-mod p) ∙ ap (λ n. n % p) (sym (unit_at-other column k known.1))

-- before the open column it has 0, and 1 there
open_before : (p column k : ℕ) (o : Option Solved) → k < column → ((s : Solved) → o ≡ Some s → get_or s.entries column 0 ≡ 0) → open_entry p column k o ≡ 0
open_before p column k None before h = unit_at-other column k (λ same. absurd (omega arith))
open_before p column k (Some s) before h = ap (λ n. (p - n) % p) (h s refl) ∙ ap (λ n. n % p) (let whole : p - 0 ≡ p = omega arith in whole) ∙ mod_self p

open_vanishes : (p width : ℕ) (rows : List (List ℕ)) (e : Eliminated) (column : ℕ) (v : List ℕ) → 1 < p → IsElimination p width rows e → All (IsVector p width) rows → get_or e.solved.items column None ≡ None → ((k : ℕ) → k < width → get_or v k 0 ≡ open_entry p column k (get_or e.solved.items k None)) → (j : ℕ) → j < length rows → dot (get_or rows j []) v % p ≡ 0
open_vanishes p width rows e column v large is vectors none at j within =
    let row = get_or rows j [] in
    let solved = e.solved.items in
    let d : ℕ = dot row (entries_at column solved) in
    let known : (k : ℕ) (s : Solved) → get_or solved k None ≡ Some s → (get_or s.entries column 0 < p) × (k ≢ column) =
    λ k s has. (entry_below p width s.entries (omega arith) (is.solved k s has).entries column, λ same. let clash : None ≡ Some s = sym none ∙ ap (λ n. get_or solved n None) (sym same) ∙ has in cc) in
    let whole : (dot row v + d) % p ≡ (0 + d) % p =
    ap (λ n. (n + d) % p) (dot-weigh row v) ∙ ap (λ n. (weigh row (λ k. get_or v k 0) + n) % p) (dot-weigh row (entries_at column solved))
    ∙ ap (λ n. n % p) (sym (weigh-add row (λ k. get_or v k 0) (λ k. get_or (entries_at column solved) k 0)))
    ∙ weigh-same p row (λ k. get_or v k 0 + get_or (entries_at column solved) k 0) (unit_at column) (λ k h.
    ap (λ n. (n + get_or (entries_at column solved) k 0) % p) (at k (omega (arith, (vectors j [] within).size))) ∙ ap (λ n. (open_entry p column k (get_or solved k None) + n) % p) (entries_at-at column solved k)
    ∙ open_sum p column k (get_or solved k None) (known k))
    ∙ ap (λ n. n % p) (weigh-unit row column ∙ is.spans j [] within column) ∙ mod-mod d p ∙ ap (λ n. n % p) (sym (zero-add d)) in
    cancel p (dot row v) 0 d (omega arith) whole ∙ zero-mod p

pub is_open : (p width : ℕ) (rows : List (List ℕ)) (values : List ℕ) (e : Eliminated) (column : ℕ) (v : List ℕ) → 1 < p → IsElimination p width rows e → All (IsVector p width) rows → IsVector p (length rows) values → All (λ z. dot z values % p ≡ 0) e.cancelled.items → column < length e.solved.items → get_or e.solved.items column None ≡ None → IsVector p (length e.solved.items) v → ((k : ℕ) → k < length e.solved.items → get_or v k 0 ≡ open_entry p column k (get_or e.solved.items k None)) → IsOpen p width rows values v
is_open p width rows values e column v large is vectors values_are cancels inside none vector at = record {
  is_vector = subst (λ n. IsVector p n v) is.columns vector;
  leads = record {
    place = column;
    one = at column inside ∙ ap (open_entry p column column) none ∙ unit_at-here column;
    zeros = λ k before. at k (omega arith) ∙ open_before p column k (get_or e.solved.items k None) before (λ s has. (is.solved k s has).last column before);
  };
  vanishes = open_vanishes p width rows e column v large is vectors none (λ k h. at k (omega (arith, is.columns)));
  solution = solution_of p e.solved.items values;
  is_solution = is_solution p width rows values e large is values_are cancels;
}

-- what a column has, read from the list
pub some_sum : (P : Solved → Type 0) (solved : List (Option Solved)) (place : ℕ) (o : Option Solved) → place < length solved → o ≡ get_or solved place o → ((s : Solved) → HasSum solved place s → P s) → IfSome o P
some_sum P solved place None within is h = tt
some_sum P solved place (Some s) within is h = h s (get_or_default solved place None (Some s) within ∙ sym is)
