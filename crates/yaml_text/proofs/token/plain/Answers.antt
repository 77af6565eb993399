use Rattle.std.proofs.Common.{arith}
use Rattle.std.proofs.lemmas.List.{length-take}
use Rattle.std.proofs.lemmas.Str.{IsAscii-take}
use Rattle.yaml_text.proofs.token.plain.Goals as goal

pub invariant_of-words : goal.invariant_of-words
invariant_of-words c =
    (c.trim_end-words.ensures.ascii (IsAscii-take c.args.text.now c.plain_length-length.result c.requires.ascii), omega (arith, length-take c.plain_length-length.result c.args.text.now))
