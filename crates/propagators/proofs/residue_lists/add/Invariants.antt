use Rattle.std.proofs.Common.{◌≡◌, ◌+◌, ◌%◌, ◌<◌, ◌≤◌, ℕ, get_or}
use Rattle.propagators.proofs.residue_lists.add.Given as goal

abbrev pub invariant-loop-place : goal.invariant-loop-place
invariant-loop-place l = record {
  added : (k : ℕ) → k < l.place → get_or l.values k 0 ≡ (get_or l.initial.values k 0 + get_or l.others k 0) % l.modulus;
  kept : (k : ℕ) → l.place ≤ k → get_or l.values k 0 ≡ get_or l.initial.values k 0;
}
