use Rattle.family_schema.proofs.ScopeCounts.{length-shifted}
use Rattle.family_schema.proofs.scope.scope_of.Goals as goal

pub returns-clause-momenta : goal.returns-clause-momenta
returns-clause-momenta c =
    rw (c.from_vec.ensures, c.in_ok-names.ensures.names, c.as_slice.ensures, c.as_slice-2.ensures, c.in_ok-conserved.ensures.shifted, c.len.ensures)
    (length-shifted c.args.loops c.args.kinematics.now.externals c.args.kinematics.now.conserved c.requires.counts)
