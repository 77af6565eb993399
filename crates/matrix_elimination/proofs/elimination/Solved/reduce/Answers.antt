use Rattle.std.proofs.Common.{◌+◌, ◌<◌, length, take, None, arith, sym, ◌∙◌, subst}
use Rattle.std.proofs.lemmas.List.{get_or_read}
use Rattle.matrix_elimination.specs.declared.elimination.Solved.{Solved}
use Rattle.matrix_elimination.specs.Steps.{IsWithMultiple, IsSum, IsRest}
use Rattle.matrix_elimination.proofs.Reducing.{rest_more, rest_none, IsSum-resized, IsSum-with_multiple}
use Rattle.matrix_elimination.proofs.elimination.Solved.reduce.Goals.{in-Some, in_default}
use Rattle.matrix_elimination.proofs.elimination.Solved.reduce.Goals as goal

pub add_multiple-requires-clause-other : goal.add_multiple-requires-clause-other
add_multiple-requires-clause-other c =
    let here = get_or_read c.args.solved.now _ _ c.loop-column-test.true c.index-solved-column.is None in
    let sum = c.loop-column.invariant.0 in
    IsSum-resized c.args.modulus.now _ _ _ _ c.in-Some.pivot (sym sum.entries.size) (sym sum.multipliers.size)
    (c.requires.sums c.loop-column.column c.in-Some.pivot (sym here ∙ c.in-Some.is))

pub loop-column-preserved : goal.loop-column-preserved
loop-column-preserved c =
    let p = c.args.modulus.now in
    let solved = c.args.solved.now in
    let row = c.args.row.now in
    let here = get_or_read solved _ _ c.loop-column-test.true c.index-solved-column.is None in
    let inside : c.loop-column.column < length row = omega (arith, c.requires.row.size, c.loop-column-test.true) in
    elim c.match-solved-column.branch [
      | in-Some w ↦
          let new = w.add_multiple.new.self in
          let entries = subst (λ f. IsWithMultiple p f c.loop-column.self.entries w.in-Some.pivot.entries new.entries) w.neg.ensures.value w.add_multiple.ensures.entries in
          let multipliers = subst (λ f. IsWithMultiple p f c.loop-column.self.multipliers w.in-Some.pivot.multipliers new.multipliers) w.neg.ensures.value w.add_multiple.ensures.multipliers in
          subst (λ (s : Solved). IsSum p (length solved) (length c.args.self.now.multipliers) s × IsRest p (take (c.loop-column.column + 1) row) solved c.args.self.now s) (sym w.self-is) (
            IsSum-with_multiple p _ _ _ c.loop-column.self w.in-Some.pivot new c.loop-column.invariant.0 entries multipliers,
            rest_more p row solved c.loop-column.column w.in-Some.pivot c.args.self.now c.loop-column.self new (c.requires.row.below c.loop-column.column 0 inside) (sym here ∙ w.in-Some.is) entries multipliers c.loop-column.invariant.1,
          )
      | in_default w ↦
          subst (λ (s : Solved). IsSum p (length solved) (length c.args.self.now.multipliers) s × IsRest p (take (c.loop-column.column + 1) row) solved c.args.self.now s) (sym w.self-is)
          (c.loop-column.invariant.0, rest_none p row solved c.loop-column.column c.args.self.now c.loop-column.self (sym here ∙ w.in_default.is) c.loop-column.invariant.1)
    ]
