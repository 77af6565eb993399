-- Telling numbers and integrals apart by tests.
use Rattle.std.proofs.Common.{◌≡◌, ◌≢◌, ℕ, zero, suc, Bool, true, false, refl, sym, ap, ◌∙◌, ◌⊎◌, inl, inr}
use Rattle.std.specs.Ordering.{is_eq, eq_by_cmp}
use Rattle.std.specs.declared.cmp.Ordering.{Ordering}
use Rattle.std.specs.declared.cmp.Ordering.TheVariants.{Less, Equal, Greater}
use Rattle.std.proofs.Math.Nat.{suc-ne-zero}
use Rattle.std.proofs.lemmas.Bool.{false≢true}
use Rattle.std.proofs.lemmas.Cmp.{tied_itself}
use Rattle.integral_index.specs.Integral.{Integral}
use Rattle.integral_index.specs.Order.{by_fields}
use Rattle.integral_index.proofs.Orders.{by_fields-total, by_fields-IsAntisymmetric}

-- a number is 0 or not
pub decided : (n : ℕ) → (n ≡ 0) ⊎ (n ≢ 0)
decided zero = inl refl
decided (suc n) = inr (suc-ne-zero n)

-- whether two integrals are the same, as rows look them up
abbrev pub same_key : Integral → Integral → Bool
same_key = eq_by_cmp by_fields

tied_false : (r : Ordering) → is_eq r ≡ false → r ≢ Equal
tied_false Less h e = cc
tied_false Equal h e = false≢true (sym h)
tied_false Greater h e = cc

tied_true : (r : Ordering) → is_eq r ≡ true → r ≡ Equal
tied_true Less h = absurd (false≢true h)
tied_true Equal h = refl
tied_true Greater h = absurd (false≢true h)

pub key_cases : (y x : Integral) → ((same_key y x ≡ true) × (y ≡ x)) ⊎ ((same_key y x ≡ false) × (y ≢ x))
key_cases y x =
    elim (same_key y x) as (λ b. same_key y x ≡ b → ((same_key y x ≡ true) × (y ≡ x)) ⊎ ((same_key y x ≡ false) × (y ≢ x))) [
      | true ↦ λ e. inl (e, by_fields-IsAntisymmetric y x (tied_true (by_fields y x) e))
      | false ↦ λ e. inr (e, λ s. tied_false (by_fields y x) e (ap (by_fields y) (sym s) ∙ tied_itself by_fields-total y))
    ] refl
