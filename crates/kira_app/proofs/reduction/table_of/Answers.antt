-- The text of the one reduced list.
use Rattle.std.proofs.Common.{◌∙◌}
use Rattle.table_text.specs.Pieces.{name_of}
use Rattle.table_text.specs.TableText.{table_text, zeros_of}
use Rattle.kira_app.proofs.TextOfTable.{text_of_solved}
use Rattle.kira_app.proofs.reduction.table_of.Goals as goal

pub returns-clause-text : goal.returns-clause-text
returns-clause-text g c =
    text_of_solved c.args.plan.now c.in_ok-table.table c.in_ok-text.field-0.items c.in_ok-table.ensures.solved
    (c.in_ok-text.ensures ∙ (λ i. table_text (name_of (c.names-names.ensures i)) (zeros_of (c.zero_lists.ensures.value i)) c.in_ok-table.table (c.selection.ensures.value i)))
