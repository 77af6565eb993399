use Rattle.std.proofs.Common.{◌++◌, refl, sym, ◌∙◌, ap, codes, pos, get_or, arith}
use Rattle.std.specs.Fmt.{signed_decimal}
use Rattle.std.specs.List.{join_by}
use Rattle.table_text.proofs.AppendedPieces.{appended_more, all_appended, joined}
use Rattle.table_text.proofs.pieces.push_indices.Goals as goal

pub loop-index-preserved : goal.loop-index-preserved
loop-index-preserved c =
    appended_more (λ index. codes "," ++ signed_decimal index) c.in-Some.rest.now c.loop-index.index-index (get_or c.in-Some.rest.now c.loop-index.index-index (pos 0)) (pos 0)
    c.push_index.new.text.items c.loop-index.text.items _ c.loop-index-test.true refl c.loop-index.invariant c.in_ok-push_further_index.ensures

pub returns : goal.returns
returns c =
    joined signed_decimal (codes ",") c.in-Some.first.now c.in-Some.rest.now c.args.text.now.items c.push_index.new.text.items c.loop-index.text.items c.in_ok-push_index.ensures
    (all_appended (λ index. codes "," ++ signed_decimal index) c.in-Some.rest.now c.loop-index.index-index c.push_index.new.text.items c.loop-index.text.items (omega arith) c.loop-index.invariant)
    ∙ ap (λ indices. c.args.text.now.items ++ join_by signed_decimal (codes ",") indices) (sym c.in-Some.ensures.cases.0)
