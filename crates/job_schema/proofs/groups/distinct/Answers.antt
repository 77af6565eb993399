-- Sorting and leaving out what comes again keeps just the places.
use Rattle.std.proofs.lemmas.List.Filters.{dedup_is}
use Rattle.std.proofs.lemmas.List.Kept.{Contains-dedup_nat, Contains-from_dedup}
use Rattle.std.proofs.lemmas.List.Sorted.{Contains-permutation, IsPermutation-sym}
use Rattle.job_schema.proofs.groups.distinct.Goals as goal

pub returns : goal.returns
returns c =
    λ n.
    let is = dedup_is _ _ _ c.dedup.ensures.filtered in
    let moved = c.sort_unstable.ensures.permutation in
    let from = c.in_ok-found.ensures.items in (
      λ h. rw (← from) (Contains-permutation _ _ n (IsPermutation-sym _ _ moved) (Contains-from_dedup _ _ n (rw is at h))),
      λ h. rw is (Contains-dedup_nat _ n (Contains-permutation _ _ n moved (rw (← from) at h))),
    )
