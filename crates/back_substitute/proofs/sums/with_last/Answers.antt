-- The last row, where there is one, goes into the sum.
use Rattle.std.proofs.Common.{◌≡◌, length, subst, sym, arith}
use Rattle.sparse_row.specs.Row.{IsRow}
use Rattle.back_substitute.specs.Sums.{IsTaken}
use Rattle.back_substitute.proofs.Pairs.{IsTaken-some, IsTaken-none}
use Rattle.back_substitute.proofs.sums.with_last.Goals.{in-Some+in_ok-add_multiple, in_default}
use Rattle.back_substitute.proofs.sums.with_last.Goals as goal

pub returns : goal.returns
returns c =
    let p = c.args.modulus.now in
    let order = c.args.order in
    let others = c.args.others.now.items in
    let rest = c.pop.new.self.items in
    elim c.match-pop.branch [
      | in-Some+in_ok-add_multiple w ↦
          let is : IsRow p order w.add_multiple.new.self = subst (λ o. IsRow p o w.add_multiple.new.self) c.requires.row.ordered w.add_multiple.ensures.row in
          subst (IsTaken p order c.args.row others rest) (sym w.sum-is)
          (IsTaken-some p order c.args.row w.in-Some.other w.add_multiple.new.self others rest c.requires.others w.in-Some.ensures.items is w.in_ok-add_multiple.ensures.sum)
      | in_default w ↦
          let none : length others ≡ 0 = omega (arith, w.in_default.ensures.cases.0, c.args.others.now.ok) in
          subst (IsTaken p order c.args.row others rest) (sym w.sum-is)
          (IsTaken-none p order c.args.row others rest c.requires.others w.in_default.ensures.items none c.requires.row)
    ]
