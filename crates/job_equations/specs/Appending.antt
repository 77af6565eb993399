-- What the steps of writing equations promise each other. No public call cites this file.
use Rattle.std.specs.Prelude.{◌≡◌, List, ◌++◌}
use Rattle.std.specs.List.{AllZip}
use Rattle.sparse_row.specs.Row.{Row}

-- rows were appended: one for each of these, in order, to which it stands in this relation
pub record Appends {A : Type 0} (R : A → Row → Type 0) (xs : List A) (old new : List Row) : Type 0 where
  pub added : List Row
  pub is : new ≡ old ++ added
  pub each : AllZip R xs added
