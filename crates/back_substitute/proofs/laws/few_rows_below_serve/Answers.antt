-- Of all the reduced rows, those whose pivots the input shows are enough.
use Rattle.back_substitute.proofs.Longer.{clear_of_all, span_with_all}
use Rattle.back_substitute.proofs.laws.few_rows_below_serve.Goals as goal

pub returns : goal.returns
returns c =
    λ p order unit input below rows all s h. (clear_of_all p order unit input below rows all s h, span_with_all p order unit input below rows all s h)
