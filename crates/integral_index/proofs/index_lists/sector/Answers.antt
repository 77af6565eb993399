use Rattle.std.proofs.Common.{◌+◌, ◌*◌, ◌^◌, ◌≤◌, pos, ◌<ℤ◌, ◌≤ℤ◌, get_or, sym, ap, ◌∙◌, add-one, arith}
use Rattle.std.proofs.Math.Nat.{pow-suc}
use Rattle.std.proofs.lemmas.Int.{ints}
use Rattle.std.proofs.Math.Pow.{pow_mono}
use Rattle.integral_index.proofs.IndexLists.{sector_of_more_positive, sector_of_more_other}
use Rattle.integral_index.proofs.index_lists.sector.Goals as goal
use Rattle.integral_index.proofs.index_lists.sector.Goals.{then-index-gt0, else-index-gt0}

pub overflow_mul-bit : goal.overflow_mul-bit
overflow_mul-bit c =
    let within : c.loop-index.index-index ≤ 19 = omega arith in
    omega (arith, pow_mono {i = c.loop-index.index-index} {j = 19} within)

pub loop-index-preserved : goal.loop-index-preserved
loop-index-preserved c =
    let xs = c.args.indices.now in
    let i = c.loop-index.index-index in
    record {
      so_far = elim c.if-index-gt0.branch [
        | then-index-gt0 w ↦
            let positive : pos 0 <ℤ get_or xs i (pos 0) = grind (arith, ints) in
            w.sector-is ∙ (λ j. c.loop-index.invariant.so_far j + c.loop-index.invariant.power j) ∙ sym (sector_of_more_positive xs i (pos 0) c.loop-index-test.true positive)
        | else-index-gt0 w ↦
            let other : get_or xs i (pos 0) ≤ℤ pos 0 = grind (arith, ints) in
            w.sector-is ∙ c.loop-index.invariant.so_far ∙ sym (sector_of_more_other xs i (pos 0) c.loop-index-test.true other)
      ];
      power = ap (λ n. n * 2) c.loop-index.invariant.power ∙ sym (pow-suc 2 i) ∙ ap (λ n. 2 ^ n) (sym (add-one i));
      below = elim c.if-index-gt0.branch [ then-index-gt0 w ↦ omega arith | else-index-gt0 w ↦ omega arith ];
    }
