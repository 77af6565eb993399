-- Each equation is taken into the span.
use Rattle.std.proofs.Common.{rules, length, sym, subst}
use Rattle.std.proofs.lemmas.Iterator.Adapters.{YieldsList-from_vec}
use Rattle.std.proofs.lemmas.Iterator.Consumers.{YieldsList-turn}
use Rattle.std.proofs.lemmas.List.Elements.{All-push}
use Rattle.sparse_row.specs.Row.{IsRow}
use Rattle.sector_forward.proofs.Taking.{IsForward-more}
use Rattle.sector_forward.proofs.reduction.forward.Goals as goal

pub loop-equation-preserved : goal.loop-equation-preserved
loop-equation-preserved c =
    let road = YieldsList-from_vec {s = c.into_iter-equation-iterator.result} c.args.equations.items (search rules) (search rules) in
    let turn = YieldsList-turn road c.loop-equation.yielded c.loop-equation.equation-iterator c.loop-equation.yielded_by c.next.result c.next.new.self c.in-Some.equation c.in-Some.is c.next.ensures.steps in
    let is : IsRow c.args.modulus.now c.args.order c.in-Some.equation = subst (IsRow c.args.modulus.now c.args.order) (sym turn.1) (c.requires (length c.loop-equation.yielded) c.in-Some.equation turn.0) in (
      tt,
      tt,
      All-push (IsRow c.args.modulus.now c.args.order) c.loop-equation.yielded c.in-Some.equation c.loop-equation.invariant.2 is,
      IsForward-more c.args.modulus.now c.args.order c.loop-equation.yielded c.loop-equation.table.items c.take_equation.new.table.items c.in-Some.equation c.loop-equation.invariant.2 is c.loop-equation.invariant.3
          c.in_ok-take_equation.ensures.stairs c.in_ok-take_equation.ensures.span c.in_ok-take_equation.ensures.few,
    )
