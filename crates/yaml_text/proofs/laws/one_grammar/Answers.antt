use Rattle.yaml_text.proofs.Grammar.{read_is_flow}
use Rattle.yaml_text.proofs.NeverRefused.{flow_never_refused}
use Rattle.yaml_text.proofs.laws.one_grammar.Goals as goal

pub returns-clause-read : goal.returns-clause-read
returns-clause-read c = read_is_flow

pub returns-clause-refused : goal.returns-clause-refused
returns-clause-refused c = flow_never_refused
