-- What a list of terms gains by a term.
use Rattle.std.proofs.Common.{◌≡◌, ◌≢◌, ℕ, ◌+◌, ◌<◌, Bool, true, false, cond, List, [], ◌∷◌, ◌++◌, refl, sym, ap, ◌∙◌, arith, add-zero, add_assoc}
use Rattle.integral_index.specs.Integral.{Integral, sector_of}
use Rattle.integral_index.specs.ZeroSectors.{is_zero_sector}
use Rattle.sparse_row.specs.declared.Term.{Term}
use Rattle.sparse_row.specs.Terms.{coefficient_at, total_at}
use Rattle.sparse_row.proofs.TermLists.{by_integrals, coefficient_at-other, coefficient_at-same, total_at-append, total_at-one}
use Rattle.ibp_generator.specs.Equation.{unless_zero}
use Rattle.ibp_generator.specs.Collecting.{Gains}

pub unless_zero-none : (zeros : List ℕ) (x : Integral) → unless_zero zeros x 0 ≡ 0
unless_zero-none zeros x = by (is_zero_sector zeros (sector_of x.indices))
  where
    by : (b : Bool) → ◌≡◌ {A = ℕ} (cond b 0 0) 0
    by true = refl
    by false = refl

pub unless_zero-add : (zeros : List ℕ) (x : Integral) (m n : ℕ) → unless_zero zeros x (m + n) ≡ unless_zero zeros x m + unless_zero zeros x n
unless_zero-add zeros x m n = by (is_zero_sector zeros (sector_of x.indices))
  where
    by : (b : Bool) → ◌≡◌ {A = ℕ} (cond b 0 (m + n)) (cond b 0 m + cond b 0 n)
    by true = refl
    by false = refl

-- a term of coefficient 0 adds nothing
coefficient_at-none : (x y : Integral) (c : ℕ) → c ≡ 0 → coefficient_at x (record { integral = y; coefficient = c }) ≡ 0
coefficient_at-none x y c e =
    by_integrals x y
    (λ same. coefficient_at-same x (record { integral = y; coefficient = c }) same ∙ e)
    (λ other. coefficient_at-other x (record { integral = y; coefficient = c }) other)

module _ (zeros : List ℕ) where
  pub Gains-none : (terms : List Term) → Gains zeros terms terms (λ _. 0)
  Gains-none terms x = sym (add-zero (total_at x terms)) ∙ ap (λ n. total_at x terms + n) (sym (unless_zero-none zeros x))

  pub Gains-same : (old new : List Term) (f g : Integral → ℕ) → ((x : Integral) → f x ≡ g x) → Gains zeros old new f → Gains zeros old new g
  Gains-same old new f g same gains x = gains x ∙ ap (λ n. total_at x old + unless_zero zeros x n) (same x)

  -- one gain after another
  pub Gains-more : (old middle new : List Term) (f g : Integral → ℕ) → Gains zeros old middle f → Gains zeros middle new g → Gains zeros old new (λ x. f x + g x)
  Gains-more old middle new f g first second x =
      second x ∙ ap (λ n. n + unless_zero zeros x (g x)) (first x)
      ∙ add_assoc (total_at x old) (unless_zero zeros x (f x)) (unless_zero zeros x (g x))
      ∙ ap (λ n. total_at x old + n) (sym (unless_zero-add zeros x (f x) (g x)))

  -- a term of coefficient 0 is left out
  pub Gains-zero_coefficient : (terms : List Term) (y : Integral) (c : ℕ) → c ≡ 0 → Gains zeros terms terms (λ x. coefficient_at x (record { integral = y; coefficient = c }))
  Gains-zero_coefficient terms y c e = Gains-same terms terms (λ _. 0) _ (λ x. sym (coefficient_at-none x y c e)) (Gains-none terms)

  -- a term of a zero sector is left out
  pub Gains-zero_sector : (terms : List Term) (y : Integral) (c : ℕ) → is_zero_sector zeros (sector_of y.indices) ≡ true → Gains zeros terms terms (λ x. coefficient_at x (record { integral = y; coefficient = c }))
  Gains-zero_sector terms y c zero x =
      sym (add-zero (total_at x terms))
      ∙ ap (λ n. total_at x terms + n) (sym (by_integrals x y
      (λ same. ap (λ (z : Integral). unless_zero zeros z (coefficient_at x t)) same ∙ ap (λ b. cond b 0 (coefficient_at x t)) zero)
      (λ other. ap (unless_zero zeros x) (coefficient_at-other x t other) ∙ unless_zero-none zeros x)))
    where
      t : Term
      t = record { integral = y; coefficient = c }

  -- and any other is appended
  pub Gains-push : (terms : List Term) (y : Integral) (c : ℕ) → is_zero_sector zeros (sector_of y.indices) ≡ false → Gains zeros terms (terms ++ record { integral = y; coefficient = c } ∷ []) (λ x. coefficient_at x (record { integral = y; coefficient = c }))
  Gains-push terms y c shown x =
      let t : Term = record { integral = y; coefficient = c } in
      total_at-append x terms (t ∷ [])
      ∙ ap (λ n. total_at x terms + n) (total_at-one x t ∙ by_integrals x y
      (λ same. sym (ap (λ (z : Integral). unless_zero zeros z (coefficient_at x t)) same ∙ ap (λ b. cond b 0 (coefficient_at x t)) shown))
      (λ other. coefficient_at-other x t other ∙ sym (ap (unless_zero zeros x) (coefficient_at-other x t other) ∙ unless_zero-none zeros x)))
