use Rattle.std.proofs.Common.{◌≡◌, ◌∙◌, ℕ, List, [], length, map, sym, subst, arith}
use Rattle.std.specs.Prelude.{slice_index_or}
use Rattle.job_point.specs.Steps.{Refuses}
use Rattle.job_point.proofs.StepLemmas.{refused, spoilt, all_found}
use Rattle.job_plan.specs.ListFiles.{AreListsRead, IsListRead}
use Rattle.job_plan.proofs.ListLemmas.{text_at}
use Rattle.job_plan.proofs.list_files.read_lists.Goals as goal

pub returns-in_err-found : goal.returns-in_err-found
returns-in_err-found c =
    let families = c.args.families.now in
    let texts = map (λ text. text.items) c.args.texts.now in
    let lists = c.loop-listed.lists in
    let number = c.len-number.ensures in
    let text : slice_index_or texts (length lists) [] ≡ c.deref.result.now =
    (rw number at (text_at c.args.texts.now c.len-number.result c.index-texts-number.result (omega arith) c.index-texts-number.is)) ∙ sym c.deref.ensures.value in
    refused (AreListsRead families c.args.files.now texts) _ _ c.from_residual.ensures.1
    (spoilt (λ found listed. IsListRead families (length found) listed (slice_index_or texts (length found) [])) [] c.args.files.now lists c.loop-listed.listed-index c.listed-item.result c.in_err-found.field-0.0 c.loop-listed.invariant.step (omega arith) c.listed-item.is
    (subst (λ (t : List ℕ). Refuses (IsListRead families (length lists) c.listed-item.result t) c.in_err-found.field-0.0) (sym text) (rw number at c.in_err-found.ensures)))

pub returns : goal.returns
returns c =
    let texts = map (λ text. text.items) c.args.texts.now in
    all_found (λ found listed. IsListRead c.args.families.now (length found) listed (slice_index_or texts (length found) [])) [] c.args.files.now c.loop-listed.lists c.loop-listed.listed-index c.loop-listed.invariant.step (omega arith)
