use Rattle.list_schema.proofs.PieceLaws.{joined_pieces, no_comma}
use Rattle.list_schema.proofs.laws.pieces_are_cut.Goals as goal

pub returns-clause-whole : goal.returns-clause-whole
returns-clause-whole c = joined_pieces

pub returns-clause-cut : goal.returns-clause-cut
returns-clause-cut c = no_comma
