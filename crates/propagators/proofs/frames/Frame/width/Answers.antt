use Rattle.std.proofs.Common.{subst}
use Rattle.propagators.specs.Basis.{IsBasis}
use Rattle.propagators.proofs.FrameLemmas.{basis_of}
use Rattle.propagators.proofs.frames.Frame.width.Goals as goal

pub returns-clause-basis : goal.returns-clause-basis
returns-clause-basis c = subst IsBasis c.self.view_is (basis_of c.self.inside c.self.invariant)
