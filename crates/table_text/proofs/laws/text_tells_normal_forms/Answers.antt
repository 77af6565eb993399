-- What one text tells of two tables.
use Rattle.table_text.proofs.TextLaws.{tells_selection, tells_terms, tells_forms}
use Rattle.table_text.proofs.laws.text_tells_normal_forms.Goals as goal

pub returns : goal.returns
returns c = record { selection = tells_selection; terms = tells_terms; forms = tells_forms }
