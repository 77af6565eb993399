use Rattle.yaml_text.proofs.OneWord.{word_reads}
use Rattle.yaml_text.proofs.laws.word_is_scalar.Goals as goal

pub returns : goal.returns
returns c = word_reads
