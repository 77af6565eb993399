use Rattle.std.proofs.Common.{refl}
use Rattle.rational_expressions.proofs.ValueEnds.{has_read_nothing}
use Rattle.rational_expressions.proofs.value_reader.Reader.new.Goals as goal

pub returns : goal.returns
returns c = λ names. has_read_nothing names _ refl refl c.new.ensures.items c.new-2.ensures.items refl
