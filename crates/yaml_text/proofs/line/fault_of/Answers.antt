use Rattle.std.proofs.Common.{rules, arith, sym, ◌∙◌}
use Rattle.std.proofs.lemmas.Grind.{common_steps}
use Rattle.yaml_text.proofs.Cutting.{ascii_from_no_other}
use Rattle.yaml_text.specs.Lines.{fault_of}
use Rattle.yaml_text.proofs.line.fault_of.Goals as goal

pub returns-then-has_tab-clause-value : goal.returns-then-has_tab-clause-value
unfolding fault_of
returns-then-has_tab-clause-value c = search rules

pub returns-then-has_other-clause-value : goal.returns-then-has_other-clause-value
unfolding fault_of
returns-then-has_other-clause-value c = first_of (search rules, grind (arith, common_steps))

pub returns-then-has_quote-clause-value : goal.returns-then-has_quote-clause-value
unfolding fault_of
returns-then-has_quote-clause-value c = first_of (search rules, grind (arith, common_steps))

pub returns-then-is_mark-clause-value : goal.returns-then-is_mark-clause-value
unfolding fault_of
returns-then-is_mark-clause-value c = first_of (search rules, grind (arith, common_steps))

pub returns-else-is_mark-clause-value : goal.returns-else-is_mark-clause-value
unfolding fault_of
returns-else-is_mark-clause-value c = first_of (search rules, grind (arith, common_steps))

pub returns-else-is_mark-clause-ascii : goal.returns-else-is_mark-clause-ascii
returns-else-is_mark-clause-ascii c = λ _. ascii_from_no_other c.args.bare.now (sym c.has_other.ensures ∙ c.if-has_other.false)
