-- The terms of all denominators, and the row that they make.
use Rattle.std.proofs.Common.{◌≡◌, ◌≢◌, ℕ, zero, suc, ◌+◌, ◌-◌, ◌*◌, ◌%◌, ◌<◌, ◌≤◌, ◌⊎◌, inl, inr, Bool, true, false, cond, List, [], length, refl, sym, ap, subst, ◌∙◌, arith, add-one, add-zero, zero-add, Result, Ok, Err, IfOk}
use Rattle.std.specs.Prelude.{◌==◌}
use Rattle.std.proofs.Math.Nat.{zero-mod}
use Rattle.std.proofs.lemmas.Bool.Decides.{nat_tests}
use Rattle.integral_index.specs.declared.Order.{Order}
use Rattle.integral_index.specs.Integral.{Integral, sector_of}
use Rattle.integral_index.specs.ZeroSectors.{is_zero_sector}
use Rattle.propagators.specs.Basis.{Basis, IsDerivative}
use Rattle.propagators.specs.Sums.{sum_to}
use Rattle.sparse_row.specs.declared.Term.{Term}
use Rattle.sparse_row.specs.Row.{Row, IsRow, coefficient}
use Rattle.sparse_row.specs.Terms.{coefficient_at, total_at}
use Rattle.ibp_generator.specs.Equation.{AreDerived, IsEquation, denominator_sum, equation_sum, term_of, unless_zero}
use Rattle.sparse_row.proofs.RowValues.{same_row}
use Rattle.ibp_generator.specs.Collecting.{AreAppended, Gains}
use Rattle.ibp_generator.specs.Laws.{OneEquation}
use Rattle.ibp_generator.proofs.SumLemmas.{sum_to-more, sum_to-same}
use Rattle.ibp_generator.proofs.TermLemmas.{Gains-more, Gains-none, Gains-same}

-- ---- residues, with those of one denominator more

abbrev with_residues : ℕ → List ℕ → (ℕ → List ℕ) → ℕ → List ℕ
with_residues n c residues j = cond (j == n) c (residues j)

with_here : (n : ℕ) (c : List ℕ) (residues : ℕ → List ℕ) (j : ℕ) → j ≡ n → with_residues n c residues j ≡ c
with_here n c residues j e = let same : (j == n) ≡ true = grind (arith, nat_tests) in ap (λ b. cond b c (residues j)) same

with_before : (n : ℕ) (c : List ℕ) (residues : ℕ → List ℕ) (j : ℕ) → j < n → with_residues n c residues j ≡ residues j
with_before n c residues j below = let other : (j == n) ≡ false = grind (arith, nat_tests) in ap (λ b. cond b c (residues j)) other

last_or_before : (j n : ℕ) → j ≤ n + 1 → (j ≡ n + 1) ⊎ (j ≤ n)
last_or_before j n h = by (j == n + 1) refl
  where
    by : (b : Bool) → (j == n + 1) ≡ b → (j ≡ n + 1) ⊎ (j ≤ n)
    by true e = let same : j ≡ n + 1 = grind (arith, nat_tests) in inl same
    by false e = let other : j ≢ n + 1 = grind (arith, nat_tests) in inr (omega (arith, other, h))

module _ (basis : Basis) (i q : ℕ) where
  AreDerived-none : AreDerived basis i q 0 (λ _. [])
  AreDerived-none = record {
    is = λ j low high. absurd (omega (arith, low, high));
    only = λ j other low high d. absurd (omega (arith, low, high));
  }

  AreDerived-more : (n : ℕ) (residues : ℕ → List ℕ) (c : List ℕ) → AreDerived basis i q n residues → IsDerivative basis i q (n + 1) c → ((other : List ℕ) → IsDerivative basis i q (n + 1) other → other ≡ c) → AreDerived basis i q (n + 1) (with_residues (n + 1) c residues)
  AreDerived-more n residues c before is only = record {
    is = λ j low high. elim (last_or_before j n high) [
      | inl here ↦ subst (λ k. IsDerivative basis i q k (with_residues (n + 1) c residues k)) (sym here) (subst (IsDerivative basis i q (n + 1)) (sym (with_here (n + 1) c residues (n + 1) refl)) is)
      | inr there ↦ subst (IsDerivative basis i q j) (sym (with_before (n + 1) c residues j (omega arith))) (before.is j low there)
    ];
    only = λ j other low high d. elim (last_or_before j n high) [
      | inl here ↦ only other (subst (λ k. IsDerivative basis i q k other) here d) ∙ sym (with_here (n + 1) c residues j here)
      | inr there ↦ before.only j other low there d ∙ sym (with_before (n + 1) c residues j (omega arith))
    ];
  }

  -- ---- the loop over the denominators

  module _ (seed : Integral) (zeros : List ℕ) where
    abbrev sum_of : (ℕ → List ℕ) → ℕ → Integral → ℕ
    sum_of residues j x = denominator_sum basis.point.modulus seed (length basis.denominators) (residues j) j x

    pub AreAppended-none : (terms : List Term) → AreAppended basis i q seed zeros 0 terms terms
    AreAppended-none terms = record { residues = λ _. []; derived = AreDerived-none; gains = Gains-none zeros terms }

    pub AreAppended-more : (n : ℕ) (old middle new : List Term) (c : List ℕ) → AreAppended basis i q seed zeros n old middle → IsDerivative basis i q (n + 1) c → ((other : List ℕ) → IsDerivative basis i q (n + 1) other → other ≡ c)
        → Gains zeros middle new (denominator_sum basis.point.modulus seed (length basis.denominators) c (n + 1)) → AreAppended basis i q seed zeros (n + 1) old new
    AreAppended-more n old middle new c before is only step =
        let after = with_residues (n + 1) c before.residues in
        record {
          residues = after;
          derived = AreDerived-more n before.residues c before.derived is only;
          gains =
              Gains-same zeros old new (λ x. sum_to n (λ j. sum_of before.residues j x) + denominator_sum basis.point.modulus seed (length basis.denominators) c (n + 1) x) (λ x. sum_to (n + 1) (λ j. sum_of after j x))
              (λ x. sym (sum_to-more n (λ j. sum_of after j x)
              ∙ (λ k. sum_to-same n (λ j. sum_of after j x) (λ j. sum_of before.residues j x)
              (λ j low high. ap (λ cs. denominator_sum basis.point.modulus seed (length basis.denominators) cs j x) (with_before (n + 1) c before.residues j (omega arith))) k
              + ap (λ cs. denominator_sum basis.point.modulus seed (length basis.denominators) cs (n + 1) x) (with_here (n + 1) c before.residues (n + 1) refl) k)))
              (Gains-more zeros old middle new (λ x. sum_to n (λ j. sum_of before.residues j x)) (denominator_sum basis.point.modulus seed (length basis.denominators) c (n + 1)) before.gains step);
        }

unless_zero-mod : (zeros : List ℕ) (x : Integral) (n p : ℕ) → 0 < p → unless_zero zeros x n % p ≡ unless_zero zeros x (n % p)
unless_zero-mod zeros x n p positive = by (is_zero_sector zeros (sector_of x.indices))
  where
    by : (b : Bool) → cond b 0 n % p ≡ cond b 0 (n % p)
    by true = zero-mod p
    by false = refl

-- the row of the terms of the seed and of all denominators
pub IsEquation-made : (p : ℕ) (basis : Basis) (d i q : ℕ) (seed : Integral) (zeros : List ℕ) (order : Order) (row : Row) (middle terms : List Term) → 0 < p → basis.point.modulus ≡ p →
    Gains zeros [] middle (λ x. coefficient_at x (term_of seed seed.indices (cond (q == i) d 0))) → AreAppended basis i q seed zeros (length basis.denominators) middle terms →
    IsRow p order row → ((x : Integral) → coefficient row x ≡ total_at x terms % p) → IsEquation basis d i q seed zeros order row
IsEquation-made p basis d i q seed zeros order row middle terms positive same first appended is sums =
    let m = basis.point.modulus in
    let above : 0 < m = omega arith in
    let all = Gains-more zeros [] middle terms (λ x. coefficient_at x (term_of seed seed.indices (cond (q == i) d 0)))
    (λ x. sum_to (length basis.denominators) (λ j. denominator_sum m seed (length basis.denominators) (appended.residues j) j x)) first appended.gains in
    record {
      residues = appended.residues;
      derived = appended.derived;
      is_row = subst (λ n. IsRow n order row) (sym same) is;
      sums = λ x. sums x ∙ ap (λ n. total_at x terms % n) (sym same) ∙ ap (λ n. n % m) (all x ∙ zero-add _) ∙ unless_zero-mod zeros x (equation_sum m seed (length basis.denominators) d i q appended.residues x) m above;
    }

-- what two clauses say of the value of a call that succeeded
pub if_ok_both : {T E : Type 0} {P Q R : T → Type 0} (r : Result T E) → ((x : T) → P x → Q x → R x) → IfOk r P → IfOk r Q → IfOk r R
if_ok_both (Ok x) f p q = f x p q
if_ok_both (Err e) f p q = tt

-- two rows that are the equation are the same
pub one_equation : OneEquation
one_equation basis d i q seed zeros order row other h g =
    let p = basis.point.modulus in
    let n = length basis.denominators in
    let same : (x : Integral) → equation_sum p seed n d i q h.residues x ≡ equation_sum p seed n d i q g.residues x =
    λ x. ap (λ m. coefficient_at x (term_of seed seed.indices (cond (q == i) d 0)) + m)
    (sum_to-same n (λ j. denominator_sum p seed n (h.residues j) j x) (λ j. denominator_sum p seed n (g.residues j) j x)
    (λ j low high. ap (λ cs. denominator_sum p seed n cs j x) (g.derived.only j (h.residues j) low high (h.derived.is j low high)))) in
    same_row p order row other h.is_row g.is_row (λ x. h.sums x ∙ ap (λ m. unless_zero zeros x (m % p)) (same x) ∙ sym (g.sums x))
