use Rattle.propagators.proofs.bases.Basis.in_denominators.Goals as goal

pub returns-clause-only : goal.returns-clause-only
returns-clause-only c = rw (← c.self.view_is) c.combination.ensures.only
