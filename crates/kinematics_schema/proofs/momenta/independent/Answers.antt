use Rattle.std.proofs.Common.{◌≡◌, ℕ, length, IfOk, subst}
use Rattle.kinematics_schema.specs.Independent.{independents}
use Rattle.kinematics_schema.proofs.Counts.{length-image}
use Rattle.kinematics_schema.proofs.momenta.independent.Goals as goal

pub returns-in-Some-clause-counted : goal.returns-in-Some-clause-counted
returns-in-Some-clause-counted c =
    let counts = rw c.in-Some.is at c.requires in
    let same : length c.in-Some.other.image ≡ length (independents c.args.conserved.now c.args.momentum) = rw c.in-Some.is (length-image c.in-Some.other c.args.momentum counts) in
    subst (λ (n : ℕ). IfOk c.replaced.result (λ other. length other ≡ n)) same c.replaced.ensures.counted
