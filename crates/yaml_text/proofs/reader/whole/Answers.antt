use Rattle.std.proofs.Common.{◌≡◌, ◌<◌, arith, length}
use Rattle.std.proofs.lemmas.Bool.Decides.{nat_tests}
use Rattle.yaml_text.proofs.BlockSteps.{block_empty, block_whole}
use Rattle.yaml_text.proofs.reader.whole.Goals as goal

pub returns-then-is_empty : goal.returns-then-is_empty
returns-then-is_empty c =
    let none : length c.args.lines.now ≡ 0 = grind (arith, nat_tests) in
    block_empty 16 c.args.lines.now none

pub returns : goal.returns
returns c =
    let some : 0 < length c.args.lines.now = grind (arith, nat_tests) in
    block_whole 16 c.args.lines.now c.index-lines-0.result c.block.result some c.index-lines-0.is (rw (← c.again.ensures) c.block.ensures)
