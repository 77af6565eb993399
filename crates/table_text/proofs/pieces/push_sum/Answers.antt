use Rattle.std.proofs.Common.{◌++◌, map, sym, ◌∙◌, ap, codes, arith}
use Rattle.sparse_row.specs.Terms.{entry_of}
use Rattle.table_text.specs.Pieces.{name_of, term_text, sum_text}
use Rattle.table_text.proofs.AppendedPieces.{all_appended, joined}
use Rattle.table_text.proofs.PiecesLemmas.{sum_text-map}
use Rattle.table_text.proofs.pieces.push_sum.Goals as goal

pub returns : goal.returns
returns c =
    joined (λ term. term_text (name_of c.args.names.now) (entry_of term)) (codes " + ") c.in-Some.first.now c.in-Some.rest.now c.args.text.now.items c.push_term.new.text.items c.loop-term.text.items c.in_ok-push_term.ensures
    (all_appended (λ term. codes " + " ++ term_text (name_of c.args.names.now) (entry_of term)) c.in-Some.rest.now c.loop-term.term-index c.push_term.new.text.items c.loop-term.text.items (omega arith) c.loop-term.invariant)
    ∙ ap (λ sum. c.args.text.now.items ++ sum) (sum_text-map (name_of c.args.names.now) c.in-Some.first.now c.in-Some.rest.now)
    ∙ ap (λ terms. c.args.text.now.items ++ sum_text (name_of c.args.names.now) (map entry_of terms)) (sym c.in-Some.ensures.cases.0)
