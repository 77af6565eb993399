-- Combinations of rows that do not show one another's pivots.
use Rattle.std.proofs.Common.{◌≡◌, ◌≢◌, ℕ, ◌*◌, ◌%◌, ◌<◌, List, length, get_or, refl, sym, ap, subst, ◌∙◌, arith}
use Rattle.std.specs.Ordering.{ordering_reverse}
use Rattle.std.specs.declared.cmp.Ordering.TheVariants.{Less, Equal, Greater}
use Rattle.std.proofs.Math.Nat.{zero-mod, zero-mul, mul-zero, mul-one}
use Rattle.std.proofs.lemmas.Nat.{mul-mod_first}
use Rattle.std.proofs.lemmas.List.{length-map}
use Rattle.integral_index.specs.declared.Order.{Order}
use Rattle.integral_index.specs.Integral.{Integral}
use Rattle.integral_index.specs.Order.{compare}
use Rattle.integral_index.proofs.Orders.{compare-total, compare-IsAntisymmetric}
use Rattle.sparse_row.specs.Row.{Row, coefficient, IsPivot}
use Rattle.sparse_row.specs.Span.{combination}
use Rattle.sparse_row.proofs.Spans.{combination-only}
use Rattle.sparse_row.proofs.RowSpans.{functions, at-functions}
use Rattle.sector_forward.specs.Elimination.{AreApart}

-- a multiple of 0, and one by a multiple of p
pub times_nothing : (p c n : ℕ) → n ≡ 0 → (c * n) % p ≡ 0
times_nothing p c n none = ap (λ u. (c * u) % p) none ∙ ap (λ u. u % p) (mul-zero c) ∙ zero-mod p

pub nothing_times : (p c n : ℕ) → c % p ≡ 0 → (c * n) % p ≡ 0
nothing_times p c n none = sym (mul-mod_first c n p) ∙ ap (λ u. (u * n) % p) none ∙ ap (λ u. u % p) (zero-mul n) ∙ zero-mod p

-- at the pivot of a row, the combination is the multiplier of the row
pub at_pivot : (p : ℕ) (order : Order) (rows : List Row) (c : ℕ → ℕ) (k : ℕ) (d : Row) (x : Integral) → AreApart order rows → k < length rows → IsPivot order (get_or rows k d) x → combination c (functions rows) x % p ≡ c k % p
at_pivot p order rows c k d x apart in_k pivot =
    let len = length-map rows coefficient in
    combination-only p c (functions rows) x k (omega arith)
    (λ i h differ.
    let in_i : i < length rows = omega arith in
    ap (λ f. (c i * f x) % p) (at-functions rows i d in_i) ∙ times_nothing p (c i) (coefficient (get_or rows i d) x) (apart k i d x in_k in_i (λ e. differ (sym e)) pivot))
    ∙ ap (λ f. (c k * f x) % p) (at-functions rows k d in_k) ∙ ap (λ u. (c k * u) % p) pivot.one ∙ ap (λ u. u % p) (mul-one (c k))

-- no greater than what is no greater
pub not_above : (order : Order) (x y z : Integral) → compare order x y ≢ Greater → compare order y z ≢ Greater → compare order x z ≢ Greater
not_above order x y z first second greater =
    let down : compare order z x ≡ Less = (compare-total order).antisymm z x ∙ ap ordering_reverse greater in
    elim (compare order x y) as (λ o. compare order x y ≡ o → ⊥) [
      | Less ↦ λ e. second ((compare-total order).antisymm y z ∙ ap ordering_reverse ((compare-total order).trans z x y down e))
      | Equal ↦ λ e. second (subst (λ u. compare order u z ≡ Greater) (compare-IsAntisymmetric order x y e) greater)
      | Greater ↦ λ e. first e
    ] refl
