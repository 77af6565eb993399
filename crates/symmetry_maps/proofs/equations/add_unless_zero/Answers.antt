-- A term of a zero sector is left out, and any other is added.
use Rattle.std.proofs.Common.{sym, ap, ◌∙◌}
use Rattle.integral_index.specs.declared.Unit.{Unit}
use Rattle.integral_index.specs.ZeroSectors.{is_zero_sector}
use Rattle.symmetry_maps.proofs.EquationLemmas.{IsWithTerm-added, IsWithTerm-zero, on_ok_both}
use Rattle.symmetry_maps.proofs.equations.add_unless_zero.Goals as goal

pub returns-then-is_zero-clause-sums : goal.returns-then-is_zero-clause-sums
returns-then-is_zero-clause-sums c =
    IsWithTerm-zero c.args.modulus.now c.args.zeros.now c.args.row.now (record { integral = c.args.integral.now; coefficient = c.args.coefficient }) c.requires.row
    (ap (λ (u : Unit). is_zero_sector c.args.zeros.now u.sector) (sym c.unit.ensures) ∙ sym c.is_zero.ensures ∙ c.if-is_zero.true)

pub returns-clause-sums : goal.returns-clause-sums
returns-clause-sums c =
    on_ok_both c.add_term.result
    (λ sum others. IsWithTerm-added c.args.modulus.now c.args.zeros.now c.args.row.now (record { integral = c.args.integral.now; coefficient = c.args.coefficient }) c.add_term.new.self c.requires.row
    (ap (λ (u : Unit). is_zero_sector c.args.zeros.now u.sector) (sym c.unit.ensures) ∙ sym c.is_zero.ensures ∙ c.if-is_zero.false) sum others)
    c.add_term.ensures.sum c.add_term.ensures.others
