use Rattle.std.proofs.Common.{rules}
use Rattle.yaml_text.specs.Lines.{line_at}
use Rattle.yaml_text.proofs.line.line_at.Goals as goal

pub returns : goal.returns
unfolding line_at
returns c = search rules
