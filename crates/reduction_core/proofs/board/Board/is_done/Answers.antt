-- A state is done where all units are counted.
use Rattle.std.proofs.Common.{sym, ◌∙◌}
use Rattle.std.proofs.lemmas.Bool.{eqb-true, eq-eqb}
use Rattle.sector_machine.proofs.Counts.{done_is_counted}
use Rattle.reduction_core.proofs.board.Board.is_done.Goals as goal

pub returns : goal.returns
returns c =
    let done = done_is_counted c.args.self.now.state in (
      λ test. done.1 (sym c.back_count.ensures ∙ eqb-true c.back_count.result c.unit_count.result test ∙ c.unit_count.ensures),
      λ is. eq-eqb c.back_count.result c.unit_count.result (c.back_count.ensures ∙ done.0 is ∙ sym c.unit_count.ensures),
    )
