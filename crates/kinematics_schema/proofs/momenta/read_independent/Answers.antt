use Rattle.std.proofs.Common.{◌≡◌, ℕ, length, IfOk, sym, subst}
use Rattle.kinematics_schema.specs.Independent.{HasCounts}
use Rattle.kinematics_schema.proofs.Counts.{length-independents}
use Rattle.kinematics_schema.proofs.momenta.read_independent.Goals as goal

pub returns-clause-counted : goal.returns-clause-counted
returns-clause-counted c =
    let same = c.in_ok-momentum.ensures.counted in
    let counts = subst (HasCounts c.args.conserved.now) (sym same) c.requires.counts in
    subst (λ (n : ℕ). IfOk c.independent.result (λ momentum. length momentum ≡ n))
    (length-independents c.args.conserved.now c.in_ok-momentum.momentum c.args.names.now same c.requires.counts counts) c.independent.ensures.counted
