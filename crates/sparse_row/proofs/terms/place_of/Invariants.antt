use Rattle.std.proofs.Common.{◌≡◌, ◌-◌, ◌≤◌, length}
use Rattle.std.specs.List.{AllWithin}
use Rattle.std.specs.declared.cmp.Ordering.TheVariants.{Less, Greater}
use Rattle.integral_index.specs.Order.{compare}
use Rattle.sparse_row.proofs.terms.place_of.Given as goal

abbrev pub invariant-loop-low : goal.invariant-loop-low
invariant-loop-low l = record {
  ordered : l.low ≤ l.high;
  within : l.high ≤ length l.terms;
  above : AllWithin (λ term. compare l.order term.integral l.x ≡ Greater) l.terms 0 l.low;
  under : AllWithin (λ term. compare l.order term.integral l.x ≡ Less) l.terms l.high (length l.terms);
}

abbrev pub decreases-loop-low : goal.decreases-loop-low
decreases-loop-low l = l.high - l.low
