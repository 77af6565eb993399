use Rattle.std.proofs.Common.{rules, arith, sym, ◌∙◌}
use Rattle.std.proofs.lemmas.Grind.{common_steps}
use Rattle.yaml_text.proofs.BlockSteps.{block_list, block_map, block_single}
use Rattle.yaml_text.proofs.block.Blocks.nested.Goals as goal

pub returns-in_err-items : goal.returns-in_err-items
returns-in_err-items g c =
    let e = block_list c.args.self.now.depth c.args.first c.args.rest.now (sym c.is_dash.ensures ∙ c.if-is_dash.true) in
    first_of (search rules, grind (arith, common_steps))

pub returns-then-is_dash : goal.returns-then-is_dash
returns-then-is_dash g c =
    let e = block_list c.args.self.now.depth c.args.first c.args.rest.now (sym c.is_dash.ensures ∙ c.if-is_dash.true) in
    first_of (search rules, grind (arith, common_steps))

pub returns-in_err-pairs : goal.returns-in_err-pairs
returns-in_err-pairs g c =
    let e = block_map c.args.self.now.depth c.args.first c.args.rest.now (sym c.is_dash.ensures ∙ c.if-is_dash.false) (sym c.has_key.ensures ∙ c.if-has_key.true) in
    first_of (search rules, grind (arith, common_steps))

pub returns-then-has_key : goal.returns-then-has_key
returns-then-has_key g c =
    let e = block_map c.args.self.now.depth c.args.first c.args.rest.now (sym c.is_dash.ensures ∙ c.if-is_dash.false) (sym c.has_key.ensures ∙ c.if-has_key.true) in
    first_of (search rules, grind (arith, common_steps))

pub returns : goal.returns
returns g c =
    let e = block_single c.args.self.now.depth c.args.first c.args.rest.now (sym c.is_dash.ensures ∙ c.if-is_dash.false) (sym c.has_key.ensures ∙ c.if-has_key.false) in
    first_of (search rules, grind (arith, common_steps))
