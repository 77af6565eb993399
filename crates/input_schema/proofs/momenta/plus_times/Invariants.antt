use Rattle.std.proofs.Common.{◌≡◌, ◌++◌, true, drop, All, length}
use Rattle.std.specs.List.{list_all}
use Rattle.momentum_sums.specs.Momenta.{IsCoefficient}
use Rattle.input_schema.specs.Momenta as spec
use Rattle.input_schema.proofs.momenta.plus_times.Given as goal

abbrev pub invariant-loop-i : goal.invariant-loop-i
invariant-loop-i l = record {
  rest : spec.plus_times l.factor l.coefficients l.image ≡ l.sums.items ++ spec.plus_times l.factor (drop l.i l.coefficients) (drop l.i l.image);
  small : list_all spec.is_small l.sums.items ≡ true;
  in_range : All IsCoefficient l.sums.items;
  counted : length l.sums.items ≡ l.i;
}
