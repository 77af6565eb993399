use Rattle.std.proofs.Common.{◌∙◌, subst, map}
use Rattle.propagators.specs.Denominators.{form_of}
use Rattle.propagators.specs.Combinations.{AreIndependent}
use Rattle.propagators.specs.Basis.{forms_of}
use Rattle.propagators.proofs.FrameLemmas.{basis_of}
use Rattle.propagators.proofs.bases.family.Goals as goal

pub returns-clause-independent : goal.returns-clause-independent
returns-clause-independent c =
    subst (λ m. AreIndependent m (map (form_of c.args.loops c.args.point.now) c.args.denominators.now)) c.requires.modulus
    (subst (λ b. AreIndependent b.point.modulus (forms_of b)) (c.frame.view_is ∙ c.in_ok-frame.ensures.basis) (basis_of c.frame.inside c.frame.invariant).independent)
