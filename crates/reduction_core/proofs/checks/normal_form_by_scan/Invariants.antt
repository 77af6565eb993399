-- No row so far has this pivot.
use Rattle.std.proofs.Common.{◌≡◌, None, find, take}
use Rattle.reduction_core.specs.NormalForm.{is_pivot}
use Rattle.reduction_core.proofs.checks.normal_form_by_scan.Given as goal

abbrev pub invariant-loop-row : goal.invariant-loop-row
invariant-loop-row l = find (λ row. is_pivot l.order row l.x) (take l.row-index l.rows) ≡ None
