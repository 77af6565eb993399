use Rattle.std.proofs.Common.{◌≡◌, [], length, map}
use Rattle.std.specs.Prelude.{slice_index_or}
use Rattle.job_point.proofs.StepLemmas.{GoesOn}
use Rattle.job_plan.specs.ListFiles.{IsListRead}
use Rattle.job_plan.proofs.list_files.read_lists.Given as goal

abbrev pub invariant-loop-listed : goal.invariant-loop-listed
invariant-loop-listed l = record {
  step : GoesOn (λ found listed. IsListRead l.families (length found) listed (slice_index_or (map (λ text. text.items) l.texts) (length found) [])) [] l.files l.lists l.listed-index;
  counted : length l.lists ≡ l.listed-index;
}
