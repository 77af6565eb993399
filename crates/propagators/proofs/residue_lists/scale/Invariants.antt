use Rattle.std.proofs.Common.{◌≡◌, ◌*◌, ◌%◌, ◌++◌, map, take, drop}
use Rattle.propagators.proofs.residue_lists.scale.Given as goal

abbrev pub invariant-loop-place : goal.invariant-loop-place
invariant-loop-place l =
    l.values ≡ map (λ c. (l.factor * c) % l.modulus) (take l.place l.initial.values) ++ drop l.place l.initial.values
