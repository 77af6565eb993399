use Rattle.std.proofs.Common.{arith}
use Rattle.yaml_text.proofs.Pieces.{whole_last}
use Rattle.yaml_text.proofs.token.is_whole.Goals as goal

pub returns-in-len1-up : goal.returns-in-len1-up
returns-in-len1-up c = whole_last c.args.text.now (omega arith)
