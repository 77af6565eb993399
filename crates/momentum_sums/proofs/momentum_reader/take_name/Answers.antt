use Rattle.std.proofs.Common.{◌≡◌, ◌∙◌, true, false, sym}
use Rattle.std.specs.Prelude.{slice_range}
use Rattle.text_tokens.specs.Faults.{tokens_in}
use Rattle.momentum_sums.specs.MomentumReader.{has_small_sum}
use Rattle.text_tokens.specs.Pieces.{rest_from}
use Rattle.text_tokens.proofs.NameLemmas.{among_at}
use Rattle.momentum_sums.proofs.TallyLemmas.{tallied_name, blame_small, blame_again, blame_range, small_is}
use Rattle.momentum_sums.proofs.momentum_reader.take_name.Goals as goal

pub returns-then-has_small_sum-clause-ok : goal.returns-then-has_small_sum-clause-ok
returns-then-has_small_sum-clause-ok c = λ before s.
    let found = c.in-Some.ensures.found in
    let after = tallied_name _ before _ _ _ _ _ (c.add_term.auto.tallies ∙ c.requires.lengths) c.in-Some.ensures.each s in
    let small : has_small_sum c.in-Some.tally ≡ true = cc in (
      blame_small c.args.names.now before (tokens_in (rest_from c.args.bytes.now c.args.piece.end)) (slice_range c.args.bytes.now c.args.piece.at c.args.piece.end)
          (among_at _ _ found.0 found.1 found.2) (sym (small_is _ _ _ _ _ _ _ found.0 found.1 found.2 found.3 after) ∙ small),
      after,
    )

pub returns-then-comes_again-clause-ok : goal.returns-then-comes_again-clause-ok
returns-then-comes_again-clause-ok c = λ before s.
    let found = c.in-Some.ensures.found in (
      blame_again c.args.names.now before (tokens_in (rest_from c.args.bytes.now c.args.piece.end)) (slice_range c.args.bytes.now c.args.piece.at c.args.piece.end)
          (among_at _ _ found.0 found.1 found.2) (cc),
      tallied_name _ before _ _ _ _ _ (c.add_term.auto.tallies ∙ c.requires.lengths) c.in-Some.ensures.each s,
    )

pub returns-else-comes_again-clause-fault : goal.returns-else-comes_again-clause-fault
returns-else-comes_again-clause-fault c = λ before s.
    let found = c.in-Some.ensures.found in
    let after = tallied_name _ before _ _ _ _ _ (c.add_term.auto.tallies ∙ c.requires.lengths) c.in-Some.ensures.each s in
    let large : has_small_sum c.in-Some.tally ≡ false = cc in
    blame_range c.args.names.now before (tokens_in (rest_from c.args.bytes.now c.args.piece.end)) (slice_range c.args.bytes.now c.args.piece.at c.args.piece.end)
    (among_at _ _ found.0 found.1 found.2) (cc) (sym (small_is _ _ _ _ _ _ _ found.0 found.1 found.2 found.3 after) ∙ large)
