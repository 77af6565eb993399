use Rattle.std.proofs.Common.{◌++◌, ◌∙◌, ap, List}
use Rattle.std.proofs.lemmas.List.{take_all}
use Rattle.std.specs.List.{flat_map}
use Rattle.integral_index.specs.Integral.{Integral}
use Rattle.table_text.specs.Pieces.{line_text, name_of}
use Rattle.table_text.specs.TableText.{form_of, masters_text, zeros_of}
use Rattle.table_text.proofs.FoundMasters.{found_masters}
use Rattle.table_text.proofs.whole.text.Goals as goal

pub returns : goal.returns
returns c =
    let zeros = zeros_of c.args.zeros.now in
    let name = name_of c.args.names.now in
    let table = c.args.table.now in
    let found = found_masters zeros table c.args.selection.now c.loop-integral.integral-index c.loop-integral.shown.items c.in_ok-ascending.field-0.items c.order.result c.loop-integral-test.false
    c.loop-integral.invariant.shown c.order.ensures c.in_ok-ascending.ensures.ascend c.in_ok-ascending.ensures.members in
    c.in_ok-push_masters.ensures
    ∙ ap (λ (lines : List _). lines ++ masters_text name c.deref.result.now) (c.loop-integral.invariant.text ∙ ap (flat_map (λ x. line_text name x (form_of zeros table x))) (take_all c.loop-integral.integral-index c.args.selection.now c.loop-integral-test.false))
    ∙ ap (λ (integrals : List Integral). flat_map (λ x. line_text name x (form_of zeros table x)) c.args.selection.now ++ masters_text name integrals) (c.deref.ensures.value ∙ found)
