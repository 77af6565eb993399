-- Forms whose elimination leaves none over.
use Rattle.std.specs.Prelude.{◌≡◌, ℕ, ◌<◌, List, [], length, All}
use Rattle.matrix_elimination.specs.declared.elimination.Eliminated.{Eliminated}
use Rattle.matrix_elimination.specs.Vectors.{IsVector}
use Rattle.matrix_elimination.specs.Elimination.{IsElimination}
use Rattle.propagators.specs.Forms.{Form}
use Rattle.propagators.specs.Combinations.{rows_of, constants_of}

-- as many forms as scalar products, of residues, and their elimination, in which no sum of them cancels
pub record IsInverted (p : ℕ) (forms : List Form) (e : Eliminated) : Type 0 where
  pub large : 1 < p
  pub rows : All (IsVector p (length forms)) (rows_of forms)
  pub constants : All (λ c. c < p) (constants_of forms)
  pub elimination : IsElimination p (length forms) (rows_of forms) e
  pub none : e.cancelled.items ≡ []
