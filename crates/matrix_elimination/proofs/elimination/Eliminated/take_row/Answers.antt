use Rattle.std.proofs.Common.{◌<◌, ◌+◌, [], length, get_or, refl, sym, ap, ◌∙◌, subst, arith}
use Rattle.std.proofs.lemmas.List.{get_or_read}
use Rattle.matrix_elimination.specs.declared.elimination.Solved.{Solved}
use Rattle.matrix_elimination.specs.Vectors.{IsVector}
use Rattle.matrix_elimination.proofs.Taking.{taking_row, column_sums, opens}
use Rattle.matrix_elimination.proofs.Cancelling.{partial_cancelled}
use Rattle.matrix_elimination.proofs.Solving.{partial_solved}
use Rattle.matrix_elimination.proofs.elimination.Eliminated.take_row.Goals as goal

pub reduce-requires-clause-sum : goal.reduce-requires-clause-sum
reduce-requires-clause-sum c =
    let p = c.args.modulus.now in
    let rows = c.args.rows.now in
    let here = get_or_read rows _ _ c.requires.place c.index-rows-place.is [] in
    let vector : IsVector p c.args.width c.in_ok-copy.field-0 = subst (IsVector p c.args.width) (sym (c.in_ok-copy.ensures ∙ here)) (c.requires.rows c.args.place [] c.requires.place) in
    let large : 1 < p = omega (arith, c.value-p.ensures.modulus.from_3) in
    record {
      entries = record { size = vector.size ∙ sym c.requires.taken.columns ∙ sym (ap length c.deref.ensures.value); below = vector.below };
      multipliers = record { size = refl; below = λ k d h. omega (arith, c.in_ok-unit.ensures.small k d h) };
    }

pub reduce-requires-clause-sums : goal.reduce-requires-clause-sums
reduce-requires-clause-sums c =
    column_sums c.args.modulus.now c.args.width c.args.rows.now (c.args.place + 1) (length c.in_ok-unit.field-0) c.args.self.now c.deref.result.now c.requires.taken c.deref.ensures.value c.in_ok-unit.ensures.size

pub solve-requires-clause-open : goal.solve-requires-clause-open
solve-requires-clause-open c =
    let p = c.args.modulus.now in
    let rows = c.args.rows.now in
    let here = get_or_read rows _ _ c.requires.place c.index-rows-place.is [] in
    let old : Solved = record { entries = c.in_ok-copy.field-0; multipliers = c.in_ok-unit.field-0 } in
    let t = taking_row p c.args.width rows c.args.place c.args.self.now old c.reduce.new.self c.entries.result.now c.deref.result.now (omega (arith, c.value-p.ensures.modulus.from_3)) c.requires.place c.requires.rows c.requires.taken
    (c.entries.ensures ∙ here) c.deref.ensures.value (c.in_ok-copy.ensures ∙ sym c.entries.ensures) c.in_ok-unit.ensures.size c.in_ok-unit.ensures.unit c.reduce.ensures.sum c.reduce.ensures.rest in
    opens p c.args.width rows c.args.place c.args.self.now c.reduce.new.self t c.in-Some.column (λ none. c.in-Some.ensures.1 (ap (λ es. get_or es c.in-Some.column 0) c.entries-2.ensures ∙ none))

pub solve-requires-clause-sums : goal.solve-requires-clause-sums
solve-requires-clause-sums c =
    column_sums c.args.modulus.now c.args.width c.args.rows.now (c.args.place + 1) (length c.reduce.new.self.multipliers) c.args.self.now c.args.self.now.solved.items c.requires.taken refl (c.reduce.ensures.sum.multipliers.size ∙ c.in_ok-unit.ensures.size)

pub returns-in_ok-push-in-None-clause-taken : goal.returns-in_ok-push-in-None-clause-taken
returns-in_ok-push-in-None-clause-taken c =
    let p = c.args.modulus.now in
    let rows = c.args.rows.now in
    let here = get_or_read rows _ _ c.requires.place c.index-rows-place.is [] in
    let old : Solved = record { entries = c.in_ok-copy.field-0; multipliers = c.in_ok-unit.field-0 } in
    let t = taking_row p c.args.width rows c.args.place c.args.self.now old c.reduce.new.self c.entries.result.now c.deref.result.now (omega (arith, c.value-p.ensures.modulus.from_3)) c.requires.place c.requires.rows c.requires.taken
    (c.entries.ensures ∙ here) c.deref.ensures.value (c.in_ok-copy.ensures ∙ sym c.entries.ensures) c.in_ok-unit.ensures.size c.in_ok-unit.ensures.unit c.reduce.ensures.sum c.reduce.ensures.rest in
    partial_cancelled p c.args.width rows c.args.place c.args.self.now (record { solved = c.args.self.now.solved; cancelled = c.push.new.self }) c.reduce.new.self t
    (λ x. sym (ap (λ es. get_or es x 0) c.entries-2.ensures) ∙ c.in-None.ensures x) refl c.in_ok-push-in-None.ensures.items

pub returns-in_ok-solve-in-Some-clause-taken : goal.returns-in_ok-solve-in-Some-clause-taken
returns-in_ok-solve-in-Some-clause-taken c =
    let p = c.args.modulus.now in
    let rows = c.args.rows.now in
    let here = get_or_read rows _ _ c.requires.place c.index-rows-place.is [] in
    let old : Solved = record { entries = c.in_ok-copy.field-0; multipliers = c.in_ok-unit.field-0 } in
    let t = taking_row p c.args.width rows c.args.place c.args.self.now old c.reduce.new.self c.entries.result.now c.deref.result.now (omega (arith, c.value-p.ensures.modulus.from_3)) c.requires.place c.requires.rows c.requires.taken
    (c.entries.ensures ∙ here) c.deref.ensures.value (c.in_ok-copy.ensures ∙ sym c.entries.ensures) c.in_ok-unit.ensures.size c.in_ok-unit.ensures.unit c.reduce.ensures.sum c.reduce.ensures.rest in
    let size = ap length c.entries-2.ensures ∙ t.is_sum.entries.size in
    partial_solved p c.args.width rows c.args.place c.args.self.now c.solve.new.self c.reduce.new.self t c.in-Some.column (omega (arith, c.in-Some.ensures.0, size))
    (λ x behind. sym (ap (λ es. get_or es x 0) c.entries-2.ensures) ∙ c.in-Some.ensures.2 x behind)
    (opens p c.args.width rows c.args.place c.args.self.now c.reduce.new.self t c.in-Some.column (λ none. c.in-Some.ensures.1 (ap (λ es. get_or es c.in-Some.column 0) c.entries-2.ensures ∙ none)))
    c.in_ok-solve-in-Some.ensures.solved c.solve.ensures.cancelled
