use Rattle.std.proofs.Common.{sym, ◌∙◌}
use Rattle.yaml_text.specs.Flow.{value}
use Rattle.yaml_text.proofs.FlowSteps.{pairs_none, pairs_open}
use Rattle.yaml_text.proofs.flow.Reader.map.Goals as goal

pub returns-in-CloseMap : goal.returns-in-CloseMap
returns-in-CloseMap g c =
    rw (c.new.ensures, c.take.ensures.behind) (pairs_none c.args.self.now.line (value c.args.self.now.line c.args.self.now.depth) c.args.pieces.now (sym c.peek.ensures ∙ c.in-CloseMap.is))

pub returns : goal.returns
returns g c = rw (pairs_open c.args.self.now.line (value c.args.self.now.line c.args.self.now.depth) c.peek.result c.args.pieces.now c.peek.ensures c.in_default.not-CloseMap) c.pairs.ensures
