-- The term of the seed and that of its moved indices.
use Rattle.std.proofs.Common.{◌≡◌, ◌<◌, ℕ, sym, subst, ◌∙◌, arith}
use Rattle.integral_index.specs.declared.Order.{Order}
use Rattle.sparse_row.specs.Row.{IsRow}
use Rattle.symmetry_maps.specs.Permutation.{IsPermutationOf}
use Rattle.symmetry_maps.specs.Steps.{IsWithTerm}
use Rattle.symmetry_maps.proofs.EquationLemmas.{IsSymmetryEquation-made}
use Rattle.symmetry_maps.proofs.equations.equation.Goals as goal

pub returns : goal.returns
returns c =
    let p = c.args.modulus.now in
    let large : 1 < p = omega (arith, c.value-p.ensures.modulus.from_3) in
    let positive : 0 < p = omega (arith, large) in
    let order : c.add_unless_zero.new.row.order ≡ c.args.order = c.in_ok-add_unless_zero.ensures.row.ordered ∙ (c.new-row.ensures.row p positive).ordered in
    IsSymmetryEquation-made p c.args.symmetry.now c.args.seed.now c.in_ok-moved.moved c.args.zeros.now c.args.order c.new-row.result c.add_unless_zero.new.row c.add_unless_zero-2.new.row
    large
    (subst (λ (n : ℕ). IsPermutationOf n c.args.symmetry.now) (sym c.requires) c.moved.ensures.permutation)
    c.in_ok-moved.ensures.family c.in_ok-moved.ensures.moved c.new-row.ensures.empty
    (subst (λ (o : Order). IsRow p o c.add_unless_zero-2.new.row) order c.in_ok-add_unless_zero-2.ensures.row)
    c.in_ok-add_unless_zero.ensures.sums
    (subst (λ (n : ℕ). IsWithTerm p c.args.zeros.now c.add_unless_zero.new.row (record { integral = c.in_ok-moved.moved; coefficient = n }) c.add_unless_zero-2.new.row) c.neg.ensures.value c.in_ok-add_unless_zero-2.ensures.sums)
