-- The row of the two terms of an equation.
use Rattle.std.proofs.Common.{◌≡◌, ◌≢◌, ℕ, ◌+◌, ◌-◌, ◌%◌, ◌<◌, Bool, true, false, List, [], ◌∷◌, length, refl, sym, ap, ◌∙◌, arith, add-zero, ℤ, Result, Ok, Err, OnOk}
use Rattle.std.proofs.Math.Nat.{mod-add-mod, mod-eq_of_lt, mod_self}
use Rattle.field_word.specs.Residues.{opposite_of}
use Rattle.integral_index.specs.declared.Order.{Order}
use Rattle.integral_index.specs.Integral.{Integral, sector_of}
use Rattle.integral_index.specs.ZeroSectors.{is_zero_sector}
use Rattle.sparse_row.specs.declared.Term.{Term}
use Rattle.sparse_row.specs.Row.{Row, IsEmpty, IsRow, coefficient}
use Rattle.sparse_row.specs.Terms.{coefficient_at, total_at}
use Rattle.sparse_row.proofs.RowValues.{same_row}
use Rattle.sparse_row.proofs.TermLists.{by_integrals, coefficient_at-other, coefficient_at-same, total_at-cons, total_at-one}
use Rattle.symmetry_maps.specs.Permutation.{IsPermutationOf}
use Rattle.symmetry_maps.specs.Equation.{IsMoved, IsSymmetryEquation, terms_of}
use Rattle.symmetry_maps.specs.Laws.{FixedSeedHasEmptyEquation, OneSymmetryEquation}
use Rattle.symmetry_maps.specs.Steps.{IsWithTerm}
use Rattle.symmetry_maps.proofs.MovedLemmas.{one_moved}

pub by_zero : {G : Type 0} (b : Bool) → (b ≡ false → G) → (b ≡ true → G) → G
by_zero true shown hidden = hidden refl
by_zero false shown hidden = shown refl

-- what two clauses say of a call that succeeded
pub on_ok_both : {T E P Q R : Type 0} (r : Result T E) → (P → Q → R) → OnOk r P → OnOk r Q → OnOk r R
on_ok_both (Ok x) f p q = f p q
on_ok_both (Err e) f p q = tt

-- the total of two terms
pub total_at-two : (x : Integral) (t u : Term) → total_at x (t ∷ u ∷ []) ≡ coefficient_at x t + coefficient_at x u
total_at-two x t u = total_at-cons x t (u ∷ []) ∙ ap (λ n. coefficient_at x t + n) (total_at-one x u)

module _ (p : ℕ) (zeros : List ℕ) (old : Row) (term : Term) where
  -- a term of a zero sector is left out
  pub IsWithTerm-zero : IsRow p old.order old → is_zero_sector zeros (sector_of term.integral.indices) ≡ true → IsWithTerm p zeros old term old
  IsWithTerm-zero row left_out = record {
    sums = λ x shown.
        let none : coefficient_at x term ≡ 0 = coefficient_at-other x term (λ same. absurd (different (sym shown ∙ ap (λ (y : Integral). is_zero_sector zeros (sector_of y.indices)) same ∙ left_out))) in
        sym (ap (λ n. (coefficient old x + n) % p) none ∙ ap (λ n. n % p) (add-zero _) ∙ mod-eq_of_lt (row.below x));
    left_out = λ x hidden. refl;
  }
    where
      different : false ≡ true → ⊥
      different e = cc

  -- and any other is added
  pub IsWithTerm-added : (new : Row) → IsRow p old.order old → is_zero_sector zeros (sector_of term.integral.indices) ≡ false
      → coefficient new term.integral ≡ (coefficient old term.integral + term.coefficient) % p → ((x : Integral) → x ≢ term.integral → coefficient new x ≡ coefficient old x) → IsWithTerm p zeros old term new
  IsWithTerm-added new row shown here others = record {
    sums = λ x _. by_integrals x term.integral
        (λ same. ap (coefficient new) same ∙ here ∙ ap (λ (y : Integral). (coefficient old y + term.coefficient) % p) (sym same) ∙ ap (λ n. (coefficient old x + n) % p) (sym (coefficient_at-same x term same)))
        (λ other. others x other ∙ sym (ap (λ n. (coefficient old x + n) % p) (coefficient_at-other x term other) ∙ ap (λ n. n % p) (add-zero _) ∙ mod-eq_of_lt (row.below x)));
    left_out = λ x hidden. others x (λ same. absurd (different (sym shown ∙ ap (λ (y : Integral). is_zero_sector zeros (sector_of y.indices)) (sym same) ∙ hidden)));
  }
    where
      different : false ≡ true → ⊥
      different e = cc

-- the two terms, one after the other
pub IsSymmetryEquation-made : (p : ℕ) (places : List ℕ) (seed moved : Integral) (zeros : List ℕ) (order : Order) (empty middle row : Row) → 1 < p → IsPermutationOf (length seed.indices) places
    → moved.family ≡ seed.family → IsMoved places seed.indices moved.indices → IsEmpty empty → IsRow p order row
    → IsWithTerm p zeros empty (record { integral = seed; coefficient = 1 }) middle → IsWithTerm p zeros middle (record { integral = moved; coefficient = opposite_of p 1 }) row
    → IsSymmetryEquation p places seed zeros order row
IsSymmetryEquation-made p places seed moved zeros order empty middle row large permutation family is_moved none is first second =
    let other : Term = record { integral = record { family = seed.family; indices = moved.indices }; coefficient = opposite_of p 1 } in
    record {
      permutation = permutation;
      moved = moved.indices;
      is_moved = is_moved;
      is_row = is;
      sums = λ x shown.
          second.sums x shown
          ∙ ap (λ n. (n + coefficient_at x (record { integral = moved; coefficient = opposite_of p 1 })) % p) (first.sums x shown ∙ ap (λ n. (n + coefficient_at x (record { integral = seed; coefficient = 1 })) % p) (none x))
          ∙ mod-add-mod _ p _
          ∙ ap (λ (f : ℕ). ((0 + coefficient_at x (record { integral = seed; coefficient = 1 })) + coefficient_at x (record { integral = record { family = f; indices = moved.indices }; coefficient = opposite_of p 1 })) % p) family
          ∙ ap (λ n. n % p) (sum (coefficient_at x (record { integral = seed; coefficient = 1 })) (coefficient_at x other) ∙ sym (total_at-two x (record { integral = seed; coefficient = 1 }) other));
      left_out = λ x hidden. second.left_out x hidden ∙ first.left_out x hidden ∙ none x;
    }
  where
    sum : (a b : ℕ) → (0 + a) + b ≡ a + b
    sum a b = omega arith

-- two rows that are the equation are the same
pub one_equation : OneSymmetryEquation
one_equation p places seed zeros order row other h g =
    same_row p order row other h.is_row g.is_row
    (λ x. by_zero (is_zero_sector zeros (sector_of x.indices))
    (λ shown. h.sums x shown ∙ ap (λ (m : List ℤ). total_at x (terms_of p seed m) % p) (one_moved places seed.indices h.moved g.moved h.permutation h.is_moved g.is_moved) ∙ sym (g.sums x shown))
    (λ hidden. h.left_out x hidden ∙ sym (g.left_out x hidden)))

-- 1 and its opposite
opposite_sum : (p : ℕ) → 1 < p → (1 + opposite_of p 1) % p ≡ 0
opposite_sum p large =
    let below : p - 1 < p = omega (arith, large) in
    ap (λ n. (1 + n) % p) (mod-eq_of_lt below) ∙ ap (λ n. n % p) (let e : 1 + (p - 1) ≡ p = omega (arith, large) in e) ∙ mod_self p

pub fixed_empty : FixedSeedHasEmptyEquation
fixed_empty p places seed zeros order row large fixed h x =
    by_zero (is_zero_sector zeros (sector_of x.indices))
    (λ shown. h.sums x shown ∙ ap (λ (m : List ℤ). total_at x (terms_of p seed m) % p) (one_moved places seed.indices h.moved seed.indices h.permutation h.is_moved fixed) ∙ twice x)
    (λ hidden. h.left_out x hidden)
  where
    first : Term
    first = record { integral = seed; coefficient = 1 }

    second : Term
    second = record { integral = seed; coefficient = opposite_of p 1 }

    twice : (x : Integral) → total_at x (first ∷ second ∷ []) % p ≡ 0
    twice x =
        ap (λ n. n % p) (total_at-two x first second)
        ∙ by_integrals x seed
        (λ same. ap (λ n. (n + coefficient_at x second) % p) (coefficient_at-same x first same) ∙ ap (λ n. (1 + n) % p) (coefficient_at-same x second same) ∙ opposite_sum p large)
        (λ other. ap (λ n. (n + coefficient_at x second) % p) (coefficient_at-other x first other) ∙ ap (λ n. (0 + n) % p) (coefficient_at-other x second other) ∙ mod-eq_of_lt (let e : 0 + 0 < p = omega (arith, large) in e))
