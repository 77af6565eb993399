-- A term of coefficient 0 or of a zero sector adds nothing, and any other is appended.
use Rattle.std.proofs.Common.{◌≡◌, ℕ, List, true, false, ◌∙◌, sym, ap, subst, arith}
use Rattle.integral_index.specs.declared.Unit.{Unit}
use Rattle.integral_index.specs.Integral.{sector_of}
use Rattle.integral_index.specs.ZeroSectors.{is_zero_sector}
use Rattle.sparse_row.specs.declared.Term.{Term}
use Rattle.sparse_row.specs.Terms.{coefficient_at}
use Rattle.ibp_generator.specs.Collecting.{Gains}
use Rattle.ibp_generator.proofs.TermLemmas.{Gains-push, Gains-zero_coefficient, Gains-zero_sector}
use Rattle.ibp_generator.proofs.terms.push_term.Goals as goal
use Rattle.ibp_generator.proofs.terms.push_term.Goals.{then-coefficient-eq0-via-then-coefficient-eq0, then-coefficient-eq0-via-else-coefficient-eq0+then-is_zero}

pub returns-then-coefficient-eq0-clause-gains : goal.returns-then-coefficient-eq0-clause-gains
returns-then-coefficient-eq0-clause-gains c =
    elim c.then-coefficient-eq0.branch [
      | then-coefficient-eq0-via-then-coefficient-eq0 w ↦ Gains-zero_coefficient c.args.zeros.now c.args.terms.now.items c.args.integral c.args.coefficient w.if-coefficient-eq0.true
      | then-coefficient-eq0-via-else-coefficient-eq0+then-is_zero w ↦ Gains-zero_sector c.args.zeros.now c.args.terms.now.items c.args.integral c.args.coefficient
          (ap (λ (u : Unit). is_zero_sector c.args.zeros.now u.sector) (sym w.unit.ensures) ∙ sym w.is_zero.ensures ∙ w.if-is_zero.true)
    ]

pub returns-clause-gains : goal.returns-clause-gains
returns-clause-gains c =
    let shown : is_zero_sector c.args.zeros.now (sector_of c.args.integral.indices) ≡ false =
    ap (λ (u : Unit). is_zero_sector c.args.zeros.now u.sector) (sym c.unit.ensures) ∙ sym c.is_zero.ensures ∙ c.if-is_zero.false in
    subst (λ (ts : List Term). Gains c.args.zeros.now c.args.terms.now.items ts (λ x. coefficient_at x (record { integral = c.args.integral; coefficient = c.args.coefficient })))
    (sym c.in_ok-push.ensures.items)
    (Gains-push c.args.zeros.now c.args.terms.now.items c.args.integral c.args.coefficient shown)
