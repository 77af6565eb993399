-- All terms were gone through.
use Rattle.std.proofs.Common.{◌++◌, map, ◌∙◌, ap}
use Rattle.std.proofs.lemmas.List.{take_all}
use Rattle.sparse_row.proofs.Row.push_integrals.Goals as goal

pub returns : goal.returns
returns c = record {
  terms = c.terms-terms.result.now;
  list = c.terms-terms.ensures.list;
  value = c.terms-terms.ensures.value;
  coefficients = c.terms-terms.ensures.coefficients;
  behind = c.loop-term.invariant ∙ ap (λ front. c.args.integrals.now.items ++ map (λ term. term.integral) front) (take_all c.loop-term.term-index c.terms-terms.result.now c.loop-term-test.false);
}
