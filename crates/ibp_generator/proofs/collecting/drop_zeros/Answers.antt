-- What stays is what the test lets through.
use Rattle.std.proofs.Common.{rules}
use Rattle.std.proofs.lemmas.List.Elements.{filter_from_retain}
use Rattle.ibp_generator.proofs.CollectingLemmas.{has_coefficient}
use Rattle.ibp_generator.proofs.collecting.drop_zeros.Goals as goal

pub returns : goal.returns
returns c = filter_from_retain _ has_coefficient (λ f term b g called. search rules) _ _ _ c.retain.ensures.filtered
