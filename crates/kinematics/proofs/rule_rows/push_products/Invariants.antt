use Rattle.std.proofs.Common.{◌≡◌, ◌+◌, ◌++◌, drop}
use Rattle.kinematics.specs.RuleRows.{mixed}
use Rattle.kinematics.proofs.rule_rows.push_products.Given as goal

abbrev pub invariant-loop-later : goal.invariant-loop-later
invariant-loop-later l =
    l.entries.items ++ mixed l.modulus l.l l.r (drop l.later l.left) (drop l.later l.right)
    ≡ l.initial.entries.items ++ mixed l.modulus l.l l.r (drop (l.place + 1) l.left) (drop (l.place + 1) l.right)
