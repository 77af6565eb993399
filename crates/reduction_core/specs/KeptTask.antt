-- How a task is kept: as it is seen, with rows that meet the conditions of its computation.
use Rattle.field_word.specs.Residues.{IsModulus}
use Rattle.integral_index.specs.declared.Order.{Order}
use Rattle.reduction_core.specs.declared.task.Task.TheInside.{Inside}
use Rattle.reduction_core.specs.Task.{Task, MeetsConditions}

abbrev pub shown : Inside → Task
shown a = record { modulus = a.modulus; work = a.work }

-- the rows have some order in which they meet the conditions
pub record IsKept (a : Inside) : Type 0 where
  pub modulus : IsModulus a.modulus
  pub conditions : (order : Order) × MeetsConditions a.modulus order a.work
