use Rattle.std.proofs.Common.{◌++◌, sym, ◌∙◌, ap}
use Rattle.table_text.specs.Pieces.{name_of, sum_text}
use Rattle.table_text.proofs.DescendingTerms.{descending_terms-is}
use Rattle.table_text.proofs.pieces.push_form.Goals as goal

pub returns : goal.returns
returns c =
    c.in_ok-push_sum.ensures
    ∙ ap (λ terms. c.args.text.now.items ++ sum_text (name_of c.args.names.now) terms) (sym (descending_terms-is _ c.terms.result.now c.args.form.now c.terms.ensures.list c.terms.ensures.value))
