use Rattle.std.proofs.Common.{ℕ}
use Rattle.std.specs.Prelude.{Contains, ◌↔◌}
use Rattle.std.proofs.lemmas.List.Filters.{dedup_is}
use Rattle.std.proofs.lemmas.List.Kept.{Contains-dedup_nat, Contains-from_dedup}
use Rattle.std.proofs.lemmas.List.Sorted.{Contains-permutation, IsPermutation-sym}
use Rattle.std.proofs.lemmas.Map.Keys.{IsStrictlyIncreasing-dedup}
use Rattle.integral_index.proofs.ZeroSectorLemmas.{is_zero_sector-same}
use Rattle.integral_index.proofs.zeros.ZeroSectors.new.Goals as goal
use Rattle.integral_index.proofs.zeros.ZeroSectors.new.Goals.{After-dedup}

-- sorting and leaving out what comes again keeps just the listed sectors
same_members : (c : After-dedup) → (n : ℕ) → Contains c.dedup.new.self.items n ↔ Contains c.args.listed.now n
same_members c n =
    let is = dedup_is _ _ _ c.dedup.ensures.filtered in
    let moved = c.sort_unstable.ensures.permutation in
    let from = c.in_ok-kept.ensures.items in (
      λ h. rw (← from) (Contains-permutation _ _ n (IsPermutation-sym _ _ moved) (Contains-from_dedup _ _ n (rw is at h))),
      λ h. rw is (Contains-dedup_nat _ n (Contains-permutation _ _ n moved (rw (← from) at h))),
    )

pub invariant_of-result : goal.invariant_of-result
invariant_of-result c =
    let is = dedup_is _ _ _ c.dedup.ensures.filtered in
    rw is (IsStrictlyIncreasing-dedup _ c.sort_unstable.ensures.sorted)

pub returns-clause-ascending : goal.returns-clause-ascending
returns-clause-ascending c =
    let is = dedup_is _ _ _ c.dedup.ensures.filtered in
    rw is (IsStrictlyIncreasing-dedup _ c.sort_unstable.ensures.sorted)

pub returns-clause-members : goal.returns-clause-members
returns-clause-members c = same_members c

pub returns-clause-same_zeros : goal.returns-clause-same_zeros
returns-clause-same_zeros c = is_zero_sector-same _ _ (same_members c)
