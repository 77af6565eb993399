use Rattle.std.proofs.Common.{sym, ◌∙◌}
use Rattle.yaml_text.specs.Flow.{value}
use Rattle.yaml_text.proofs.FlowSteps.{items_none, items_open}
use Rattle.yaml_text.proofs.flow.Reader.list.Goals as goal

pub returns-in-CloseList : goal.returns-in-CloseList
returns-in-CloseList g c =
    rw (c.new.ensures, c.take.ensures.behind) (items_none c.args.self.now.line (value c.args.self.now.line c.args.self.now.depth) c.args.pieces.now (sym c.peek.ensures ∙ c.in-CloseList.is))

pub returns : goal.returns
returns g c = rw (items_open c.args.self.now.line (value c.args.self.now.line c.args.self.now.depth) c.peek.result c.args.pieces.now c.peek.ensures c.in_default.not-CloseList) c.items.ensures
