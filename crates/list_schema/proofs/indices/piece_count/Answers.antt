use Rattle.std.proofs.Common.{arith}
use Rattle.list_schema.proofs.Cutting.{count_comma, count_byte, count_end}
use Rattle.list_schema.proofs.indices.piece_count.Goals as goal
use Rattle.list_schema.proofs.indices.piece_count.Goals.{then-byte-eq44, else-byte-eq44}

pub loop-byte-preserved : goal.loop-byte-preserved
loop-byte-preserved c =
    elim c.if-byte-eq44.branch [
      | then-byte-eq44 w ↦ let e = count_comma c.args.text.now c.loop-byte.byte-index (omega arith) w.if-byte-eq44.true in (omega arith, omega arith)
      | else-byte-eq44 w ↦ let e = count_byte c.args.text.now c.loop-byte.byte-index (omega arith) w.if-byte-eq44.false in (omega arith, omega arith)
    ]

pub returns : goal.returns
returns c = let e = count_end c.args.text.now c.loop-byte.byte-index (omega arith) in omega arith
