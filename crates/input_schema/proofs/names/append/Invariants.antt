use Rattle.std.proofs.Common.{◌≡◌, ◌++◌, drop}
use Rattle.input_schema.proofs.names.append.Given as goal

abbrev pub invariant-loop-name : goal.invariant-loop-name
invariant-loop-name l = l.fn.names.items ++ l.more ≡ l.names.items ++ drop l.name-index l.more
