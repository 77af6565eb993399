-- Each equation is unique, and so is their list.
use Rattle.job_equations.proofs.EquationLemmas.{one_list_of_equations}
use Rattle.job_equations.proofs.laws.equations_are_unique.Goals as goal

pub returns : goal.returns
returns c = λ bases symmetries zeros d order. one_list_of_equations bases symmetries zeros d order c.equation_is_unique.ensures c.equation_is_unique-2.ensures
