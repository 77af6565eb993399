-- Units are the same where their fields are.
use Rattle.std.proofs.Common.{◌≡◌, ◌&&◌, ◌==◌, IsTrue, ap, arith}
use Rattle.std.proofs.lemmas.Bool.Decides.{nat_tests}
use Rattle.integral_index.specs.declared.Unit.{Unit}

pub same_unit : (u v : Unit) → IsTrue (u.family == v.family && u.sector == v.sector) → u ≡ v
same_unit u v same =
    let family : u.family ≡ v.family = grind (arith, nat_tests) in
    let sector : u.sector ≡ v.sector = grind (arith, nat_tests) in
    λ i. record { family = family i; sector = sector i }

pub equal_units : (u v : Unit) → u ≡ v → IsTrue (u.family == v.family && u.sector == v.sector)
equal_units u v e =
    let family : u.family ≡ v.family = ap (λ w. w.family) e in
    let sector : u.sector ≡ v.sector = ap (λ w. w.sector) e in
    grind (arith, nat_tests)
