-- Sums of multiples of rows: their entries are those of the rows, as often as the multipliers say.
use Rattle.std.proofs.Common.{◌≡◌, ℕ, ◌+◌, ◌*◌, ◌%◌, ◌<◌, List, [], length, get_or, Option, Some, None, refl, sym, ap, ◌∙◌, arith}
use Rattle.std.proofs.Math.Nat.{mod-eq_of_lt, mod-mod}
use Rattle.std.proofs.lemmas.Nat.{mul-mod_second}
use Rattle.std.proofs.lemmas.List.{length-map}
use Rattle.matrix_elimination.specs.declared.elimination.Solved.{Solved}
use Rattle.matrix_elimination.specs.Vectors.{dot, column, unit_at}
use Rattle.matrix_elimination.specs.Elimination.{entry_at, multiplier_at, entries_at, multipliers_at, HasSum}
use Rattle.matrix_elimination.specs.Steps.{IsWithMultiple, IsMultiple, IsRest}
use Rattle.matrix_elimination.proofs.Congruences.{sums, cancel, with_multiple, with_multiple_of_residues}
use Rattle.matrix_elimination.proofs.Weights.{weigh, dot-weigh, dot-comm, weigh-same, weigh-equal, weigh-add, weigh-scale, weigh-unit, weigh-turn, weigh-none, column-at}
use Rattle.matrix_elimination.proofs.Reducing.{entries_at-at, multipliers_at-at}

-- the entries of a sum are those of the rows by its multipliers
abbrev pub IsBalanced : ℕ → List (List ℕ) → Solved → Type 0
IsBalanced p rows s = (x : ℕ) → get_or s.entries x 0 ≡ dot s.multipliers (column x rows) % p

-- the same, with the multipliers as a function of their places
turned : (ms zs : List ℕ) → dot ms zs ≡ weigh zs (λ k. get_or ms k 0)
turned ms zs = dot-comm ms zs ∙ dot-weigh zs ms

-- a vector with a multiple of another
dot-with_multiple : (p f : ℕ) (old other new zs : List ℕ) → IsWithMultiple p f old other new → dot new zs % p ≡ (dot old zs + f * dot other zs) % p
dot-with_multiple p f old other new zs is =
    ap (λ n. n % p) (turned new zs)
    ∙ weigh-same p zs (λ k. get_or new k 0) (λ k. get_or old k 0 + f * get_or other k 0) (λ k _. ap (λ n. n % p) (is.is k ∙ with_multiple p (get_or old k 0) f (get_or other k 0)) ∙ mod-mod _ p)
    ∙ ap (λ n. n % p) (weigh-add zs (λ k. get_or old k 0) (λ k. f * get_or other k 0) ∙ ap (λ n. weigh zs (λ k. get_or old k 0) + n) (weigh-scale f zs (λ k. get_or other k 0))
    ∙ ap (λ n. n + f * weigh zs (λ k. get_or other k 0)) (sym (turned old zs)) ∙ ap (λ n. dot old zs + f * n) (sym (turned other zs)))

dot-multiple : (p f : ℕ) (old new zs : List ℕ) → IsMultiple p f old new → dot new zs % p ≡ (f * dot old zs) % p
dot-multiple p f old new zs is =
    ap (λ n. n % p) (turned new zs)
    ∙ weigh-same p zs (λ k. get_or new k 0) (λ k. f * get_or old k 0) (λ k _. ap (λ n. n % p) (is.is k) ∙ mod-mod _ p)
    ∙ ap (λ n. n % p) (weigh-scale f zs (λ k. get_or old k 0) ∙ ap (λ n. f * n) (sym (turned old zs)))

pub IsBalanced-with_multiple : (p f : ℕ) (rows : List (List ℕ)) (old other new : Solved) → IsBalanced p rows old → IsBalanced p rows other → IsWithMultiple p f old.entries other.entries new.entries → IsWithMultiple p f old.multipliers other.multipliers new.multipliers → IsBalanced p rows new
IsBalanced-with_multiple p f rows old other new left right entries multipliers x =
    entries.is x ∙ ap (λ n. (n + (f * get_or other.entries x 0) % p) % p) (left x) ∙ ap (λ n. (dot old.multipliers (column x rows) % p + (f * n) % p) % p) (right x)
    ∙ with_multiple_of_residues p (dot old.multipliers (column x rows)) f (dot other.multipliers (column x rows))
    ∙ sym (dot-with_multiple p f old.multipliers other.multipliers new.multipliers (column x rows) multipliers)

pub IsBalanced-multiple : (p f : ℕ) (rows : List (List ℕ)) (old new : Solved) → IsBalanced p rows old → IsMultiple p f old.entries new.entries → IsMultiple p f old.multipliers new.multipliers → IsBalanced p rows new
IsBalanced-multiple p f rows old new is entries multipliers x =
    entries.is x ∙ ap (λ n. (f * n) % p) (is x) ∙ mul-mod_second f (dot old.multipliers (column x rows)) p
    ∙ sym (dot-multiple p f old.multipliers new.multipliers (column x rows) multipliers)

-- a row alone
pub IsBalanced-unit : (p : ℕ) (rows : List (List ℕ)) (place : ℕ) (s : Solved) → place < length rows → length s.multipliers ≡ length rows → ((i : ℕ) → i < length rows → get_or s.multipliers i 0 ≡ unit_at place i) → ((x : ℕ) → get_or s.entries x 0 < p) → s.entries ≡ get_or rows place [] → IsBalanced p rows s
IsBalanced-unit p rows place s within size unit below is x =
    let zs = column x rows in
    let one : dot s.multipliers zs ≡ get_or s.entries x 0 =
    turned s.multipliers zs ∙ weigh-equal zs (λ k. get_or s.multipliers k 0) (unit_at place) (λ k h. unit k (omega (arith, length-map rows (λ (row : List ℕ). get_or row x 0), h)))
    ∙ weigh-unit zs place ∙ column-at x rows place ∙ ap (λ row. get_or row x 0) (sym is) in
    sym (mod-eq_of_lt (below x)) ∙ ap (λ n. n % p) (sym one)

-- ---- what is solved, each as often as a row has its column

-- the multipliers of what is solved, against a column of the rows
solved_sum : (p : ℕ) (rows : List (List ℕ)) (row : List ℕ) (solved : List (Option Solved)) (x : ℕ) → ((c : ℕ) (s : Solved) → HasSum solved c s → IsBalanced p rows s) → weigh (column x rows) (λ i. dot row (multipliers_at i solved)) % p ≡ dot row (entries_at x solved) % p
solved_sum p rows row solved x balanced =
    let zs = column x rows in
    let m : ℕ → ℕ → ℕ = λ c i. multiplier_at i (get_or solved c None) in
    let each : (i : ℕ) → dot row (multipliers_at i solved) ≡ weigh row (λ c. m c i) =
    λ i. dot-weigh row (multipliers_at i solved) ∙ weigh-equal row (λ c. get_or (multipliers_at i solved) c 0) (λ c. m c i) (λ c _. multipliers_at-at i solved c) in
    let at : (o : Option Solved) → ((s : Solved) → o ≡ Some s → IsBalanced p rows s) → weigh zs (λ i. multiplier_at i o) % p ≡ entry_at x o % p =
    balanced_at p rows x in
    ap (λ n. n % p) (weigh-equal zs (λ i. dot row (multipliers_at i solved)) (λ i. weigh row (λ c. m c i)) (λ i _. each i) ∙ weigh-turn zs row (λ i c. m c i))
    ∙ weigh-same p row (λ c. weigh zs (λ i. m c i)) (λ c. get_or (entries_at x solved) c 0) (λ c _. at (get_or solved c None) (λ s has. balanced c s has) ∙ ap (λ n. n % p) (sym (entries_at-at x solved c)))
    ∙ ap (λ n. n % p) (sym (dot-weigh row (entries_at x solved)))
  where
    balanced_at : (p : ℕ) (rows : List (List ℕ)) (x : ℕ) (o : Option Solved) → ((s : Solved) → o ≡ Some s → IsBalanced p rows s) → weigh (column x rows) (λ i. multiplier_at i o) % p ≡ entry_at x o % p
    balanced_at p rows x None h = ap (λ n. n % p) (weigh-none (column x rows))
    balanced_at p rows x (Some s) h = sym (mod-mod _ p) ∙ ap (λ n. n % p) (ap (λ n. n % p) (sym (turned s.multipliers (column x rows))) ∙ sym (h s refl x))

-- a row's rest is a sum of rows too
pub IsBalanced-rest : (p : ℕ) (rows : List (List ℕ)) (row : List ℕ) (solved : List (Option Solved)) (old new : Solved) → 0 < p → ((x : ℕ) → get_or new.entries x 0 < p) → ((c : ℕ) (s : Solved) → HasSum solved c s → IsBalanced p rows s) → IsBalanced p rows old → IsRest p row solved old new → IsBalanced p rows new
IsBalanced-rest p rows row solved old new positive below balanced is rest x =
    let zs = column x rows in
    let d : ℕ = dot row (entries_at x solved) in
    let sum : (dot new.multipliers zs + d) % p ≡ (get_or new.entries x 0 + d) % p =
    sums p (dot new.multipliers zs) d (weigh zs (λ i. get_or new.multipliers i 0)) (weigh zs (λ i. dot row (multipliers_at i solved))) (ap (λ n. n % p) (turned new.multipliers zs)) (sym (solved_sum p rows row solved x balanced))
    ∙ ap (λ n. n % p) (sym (weigh-add zs (λ i. get_or new.multipliers i 0) (λ i. dot row (multipliers_at i solved))))
    ∙ weigh-same p zs (λ i. get_or new.multipliers i 0 + dot row (multipliers_at i solved)) (λ i. get_or old.multipliers i 0) (λ i _. sym (mod-mod _ p) ∙ ap (λ n. n % p) (rest.multipliers i))
    ∙ ap (λ n. n % p) (sym (turned old.multipliers zs)) ∙ sym (is x) ∙ sym (rest.entries x) in
    sym (mod-eq_of_lt (below x)) ∙ sym (cancel p (dot new.multipliers zs) (get_or new.entries x 0) d positive sum)
