-- The last pivot is the greatest.
use Rattle.std.proofs.Common.{◌≡◌, ◌<◌, ◌-◌, ◌∙◌, sym, length, arith}
use Rattle.std.specs.declared.cmp.Ordering.TheVariants.{Less}
use Rattle.sector_forward.proofs.StepLemmas.{pivot_of_read, ordered_of_read, above_all_by_last, less_of_index}
use Rattle.sector_forward.proofs.steps.is_above_all.Goals as goal

pub compare_pivot-requires : goal.compare_pivot-requires
compare_pivot-requires c =
    let rows = c.args.rows.now in
    let some : 0 < length rows = c.in-Some.ensures.item.3.0 in
    record {
      ordered = ordered_of_read c.requires.0 c.args.order rows c.requires.1 c.args.x.now 0 (length rows - 1) 0 c.in-Some.row.now (omega arith) c.in-Some.ensures.item.1;
      pivot = pivot_of_read c.requires.0 c.args.order rows c.requires.1 c.args.x.now 0 (length rows - 1) 0 c.in-Some.row.now (omega arith) c.in-Some.ensures.item.1;
    }

pub returns-in-Some : goal.returns-in-Some
returns-in-Some c =
    λ test.
    let rows = c.args.rows.now in
    let some : 0 < length rows = c.in-Some.ensures.item.3.0 in
    let less : c.compare_pivot.result ≡ Less = less_of_index c.compare_pivot.result (sym c.eq.ensures ∙ test) in
    above_all_by_last c.requires.0 c.args.order rows c.args.x.now (length rows - 1) c.in-Some.row.now c.requires.1 (omega arith) c.in-Some.ensures.item.1 (λ y pivot. sym less ∙ c.compare_pivot.ensures y pivot)

pub returns-in-None : goal.returns-in-None
returns-in-None c = λ _ k y l pivot. absurd (omega (arith, c.in-None.ensures.item.3))
