-- What the row of a sum of terms shows, and that the row that a call gives is it.
use Rattle.std.proofs.Common.{◌≡◌, ◌≢◌, ℕ, ◌+◌, ◌%◌, ◌<◌, Bool, true, false, cond, nat_eq, Option, None, Some, unwrap_or, Result, Ok, Err, OnOk, refl, sym, ap, subst, ◌∙◌}
use borrow.Author.Tests.{eqb-true, eqb-false}
use Rattle.std.specs.FinMap as map
use Rattle.std.specs.Ordering.{eq_by_cmp, is_eq}
use Rattle.std.specs.Cmp.{Equal-is}
use Rattle.std.proofs.lemmas.Cmp.{tied_itself}
use mathlib.Core.Bool.{true≢false}
use Rattle.std.proofs.Math.Nat.{mod-lt}
use Rattle.integral_index.specs.declared.Order.{Order}
use Rattle.integral_index.specs.Integral.{Integral}
use Rattle.integral_index.specs.Order.{by_fields}
use Rattle.integral_index.proofs.Orders.{by_fields-total, by_fields-IsAntisymmetric}
use Rattle.sparse_row.specs.Row.{Row, coefficient, IsRow, IsEmpty}
use Rattle.sparse_row.specs.SumOfTerms.{empty_row, with_coefficient, with_term}
use Rattle.sparse_row.proofs.RowValues.{same_row}

not_Some : {A : Type 0} {x : A} → None ≢ Some x
not_Some e = cc

-- one of two residues is a residue
either : (b : Bool) (p m n : ℕ) → m < p → n < p → cond b m n < p
either true p m n h k = h
either false p m n h k = k

-- what isn't there, or isn't 0, isn't a kept 0
taken : (tie : Bool) (o : Option ℕ) → o ≢ Some 0 → cond tie None o ≢ Some 0
taken true o none is = not_Some is
taken false o none is = none is

put : (tie : Bool) (c : ℕ) (o : Option ℕ) → c ≢ 0 → o ≢ Some 0 → cond tie (Some c) o ≢ Some 0
put true c o other none is = other (ap (λ v. unwrap_or v 0) is)
put false c o other none is = none is

-- the value of an entry that was put in or taken out
value-put : (tie : Bool) (c : ℕ) (o : Option ℕ) → unwrap_or (cond tie (Some c) o) 0 ≡ cond tie c (unwrap_or o 0)
value-put true c o = refl
value-put false c o = refl

value-taken : (tie : Bool) (o : Option ℕ) → unwrap_or (cond tie None o) 0 ≡ cond tie 0 (unwrap_or o 0)
value-taken true o = refl
value-taken false o = refl

set_to : (z : Bool) (row : Row) (x : Integral) (c : ℕ) (y : Integral) → nat_eq c 0 ≡ z → unwrap_or (map.get (cond z (map.remove row.terms x) (map.insert row.terms x c)) y) 0 ≡ cond (eq_by_cmp by_fields y x) c (coefficient row y)
set_to true row x c y e =
    ap (λ o. unwrap_or o 0) (map.get-remove by_fields-total row.terms x y)
    ∙ value-taken (eq_by_cmp by_fields y x) (map.get row.terms y)
    ∙ ap (λ n. cond (eq_by_cmp by_fields y x) n (coefficient row y)) (sym (eqb-true c 0 e))
set_to false row x c y e =
    ap (λ o. unwrap_or o 0) (map.get-insert by_fields-total row.terms x c y) ∙ value-put (eq_by_cmp by_fields y x) c (map.get row.terms y)

-- where the coefficient was set, by the tie of the integrals
pub coefficient-with_coefficient : (row : Row) (x : Integral) (c : ℕ) (y : Integral) → coefficient (with_coefficient row x c) y ≡ cond (eq_by_cmp by_fields y x) c (coefficient row y)
coefficient-with_coefficient row x c y = set_to (nat_eq c 0) row x c y refl

-- no coefficient 0 is kept
kept : (z : Bool) (row : Row) (x : Integral) (c : ℕ) (y : Integral) → nat_eq c 0 ≡ z → ((u : Integral) → map.get row.terms u ≢ Some 0) → map.get (cond z (map.remove row.terms x) (map.insert row.terms x c)) y ≢ Some 0
kept true row x c y e none is = taken (eq_by_cmp by_fields y x) (map.get row.terms y) (none y) (sym (map.get-remove by_fields-total row.terms x y) ∙ is)
kept false row x c y e none is = put (eq_by_cmp by_fields y x) c (map.get row.terms y) (eqb-false c 0 e) (none y) (sym (map.get-insert by_fields-total row.terms x c y) ∙ is)

pub IsRow-with_coefficient : (p : ℕ) (order : Order) (row : Row) (x : Integral) (c : ℕ) → IsRow p order row → c < p → IsRow p order (with_coefficient row x c)
IsRow-with_coefficient p order row x c h below = record {
  ordered = h.ordered;
  below = λ y. subst (λ n. n < p) (sym (coefficient-with_coefficient row x c y)) (either (eq_by_cmp by_fields y x) p c (coefficient row y) below (h.below y));
  no_zero = λ y. kept (nat_eq c 0) row x c y refl h.no_zero;
}

-- a row with just the values of the sum is the sum
pub with_term-is : (p : ℕ) (order : Order) (old new : Row) (x : Integral) (c : ℕ) → 0 < p → IsRow p order old → IsRow p order new → coefficient new x ≡ (coefficient old x + c) % p → ((y : Integral) → y ≢ x → coefficient new y ≡ coefficient old y) → new ≡ with_term p old (x, c)
with_term-is p order old new x c positive h g sum others =
    same_row p order new _ g (IsRow-with_coefficient p order old x _ h (mod-lt _ positive))
    (λ y. at_tie y (eq_by_cmp by_fields y x) refl ∙ sym (coefficient-with_coefficient old x ((coefficient old x + c) % p) y))
  where
    at_tie : (y : Integral) (tie : Bool) → eq_by_cmp by_fields y x ≡ tie → coefficient new y ≡ cond tie ((coefficient old x + c) % p) (coefficient old y)
    at_tie y true e = ap (coefficient new) (by_fields-IsAntisymmetric y x ((Equal-is (by_fields y x)).0 e)) ∙ sum
    at_tie y false e = others y (λ same. true≢false (sym (ap is_eq (ap (by_fields y) (sym same) ∙ tied_itself by_fields-total y)) ∙ e))

-- the row that shows nothing is the one of no term
pub empty_row-is : (p : ℕ) (order : Order) (row : Row) → 0 < p → IsRow p order row → IsEmpty row → row ≡ empty_row order
empty_row-is p order row positive h empty =
    same_row p order row (empty_row order) h
    (record { ordered = refl; below = λ x. subst (λ o. unwrap_or o 0 < p) (sym (map.get-empty by_fields x)) positive; no_zero = λ x is. not_Some (sym (map.get-empty by_fields x) ∙ is) })
    (λ x. empty x ∙ sym (ap (λ o. unwrap_or o 0) (map.get-empty by_fields x)))

-- two facts of a call that succeeded, taken together
pub on_ok_both : {T E P Q R : Type 0} (r : Result T E) → (P → Q → R) → OnOk r P → OnOk r Q → OnOk r R
on_ok_both (Ok x) f p q = f p q
on_ok_both (Err e) f p q = tt
