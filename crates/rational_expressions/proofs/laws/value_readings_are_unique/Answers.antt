use Rattle.rational_expressions.proofs.ReadingLaws.{one_value, one_value_fault, no_value_fault}
use Rattle.rational_expressions.proofs.laws.value_readings_are_unique.Goals as goal

pub returns : goal.returns
returns c = record {
  value = one_value;
  value_fault = one_value_fault;
  value_or_fault = no_value_fault;
}
