use Rattle.std.proofs.Common.{◌≡◌, ℕ, All, ◌<◌, cond, nat_eq}
use Rattle.propagators.specs.Momenta.{listed}
use Rattle.propagators.proofs.momenta.unit.Given as goal

abbrev pub invariant-loop-place : goal.invariant-loop-place
invariant-loop-place l = record {
  value : l.unit.items ≡ listed l.place (λ x. cond (nat_eq x l.number) 1 0);
  below : (p : ℕ) → 1 < p → All (λ c. c < p) l.unit.items;
}
