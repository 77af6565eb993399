use Rattle.std.proofs.Common.{ℕ, List, Option, Some, None, get_or, sym, ◌∙◌, subst, arith}
use Rattle.std.proofs.lemmas.List.{length-set, get_or-set_same, get_or-set_other}
use Rattle.field_word.specs.Residues.{IsInverse}
use Rattle.matrix_elimination.specs.declared.elimination.Solved.{Solved}
use Rattle.matrix_elimination.specs.Steps.{IsCleared}
use Rattle.matrix_elimination.proofs.Reducing.{IsSum-resized}
use Rattle.matrix_elimination.proofs.elimination.Eliminated.solve.Goals as goal

pub clear-requires-clause-sums : goal.clear-requires-clause-sums
clear-requires-clause-sums c = λ d s has. IsSum-resized c.args.modulus.now _ _ _ _ s (omega arith) (omega (arith, c.scale-2.ensures.vector.size)) (c.requires.sums d s has)

pub returns-clause-solved : goal.returns-clause-solved
returns-clause-solved c =
    let p = c.args.modulus.now in
    let column = c.args.column in
    let old = c.args.self.now.solved.items in
    let cleared = c.clear.new.solved.items in
    let pivot : Solved = record { entries = c.scale.new.self; multipliers = c.scale-2.new.self } in
    record {
      columns = length-set cleared column (Some pivot) ∙ c.clear.ensures.columns;
      factor = c.in_ok-inverse.inverse;
      inverse = subst (λ (es : List ℕ). IsInverse p (get_or es column 0) c.in_ok-inverse.inverse) c.entries.ensures c.in_ok-inverse.ensures.inverse;
      pivot = pivot;
      is_pivot = get_or-set_same cleared column (Some pivot) None (omega (arith, c.clear.ensures.columns));
      entries = c.scale.ensures;
      multipliers = c.scale-2.ensures;
      cleared = λ d other. subst (λ (o : Option Solved). IsCleared p column pivot (get_or old d None) o) (sym (get_or-set_other cleared column d (Some pivot) None other)) (c.clear.ensures.cleared d);
    }
