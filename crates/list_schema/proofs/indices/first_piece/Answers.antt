use Rattle.std.proofs.Common.{◌+◌, sym, ◌∙◌, refl, arith}
use Rattle.list_schema.proofs.Cutting.{only, first_of_more, rest_of}
use Rattle.list_schema.proofs.indices.first_piece.Goals as goal

pub returns-then-end-text-clause-last : goal.returns-then-end-text-clause-last
returns-then-end-text-clause-last c = λ _. only c.args.text.now (sym c.if-end-text.true ∙ c.piece_length-end.ensures.value)

pub returns-clause-more : goal.returns-clause-more
returns-clause-more c =
    λ _. first_of_more c.args.text.now _ _ c.piece_length-end.result (omega arith) c.piece_length-end.ensures.value refl (rest_of (c.piece_length-end.result + 1) c.args.text.now)
