use Rattle.std.proofs.Common.{◌≡◌, ◌<◌, ◌%◌, ◌^◌}
use Rattle.rational_expressions.proofs.evaluation.power.Given as goal

abbrev pub invariant-loop : goal.invariant-loop
invariant-loop l = record {
  value : l.result ≡ l.x ^ l.counter % l.modulus;
  below : l.result < l.modulus;
}
