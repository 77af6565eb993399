use Rattle.std.proofs.Common.{subst, rules, arith}
use Rattle.std.proofs.lemmas.Grind.{common_steps}
use Rattle.propagators.specs.Basis.{IsBasis}
use Rattle.propagators.proofs.FrameLemmas.{basis_of, only_of}
use Rattle.propagators.proofs.frames.Frame.combination.Goals as goal

pub returns-clause-is : goal.returns-clause-is
returns-clause-is c = first_of (search rules, grind (arith, common_steps))

pub returns-clause-only : goal.returns-clause-only
returns-clause-only c = only_of c.args.self.now c.args.form.now c.of_form.result (subst IsBasis c.self.view_is (basis_of c.self.inside c.self.invariant)) c.requires (returns-clause-is c)
