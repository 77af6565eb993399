-- Linear systems modulo p: rows, and the value that each row's products with the unknowns sum to.
-- The project's own statement of what linear algebra has.
use Rattle.std.specs.Prelude.{⊤, ◌≡◌, ◌≢◌, ℕ, ◌%◌, ◌<◌, List, [], length, slice_index}
use Rattle.std.specs.List.{slice_index_or}
use Rattle.matrix_elimination.specs.declared.systems.SystemFault.{SystemFault}
use Rattle.matrix_elimination.specs.declared.systems.SystemFault.TheVariants.{Clash, Open, Composite, OutOfMemory}
use Rattle.matrix_elimination.specs.Vectors.{IsVector, HasLeadingOne, dot, column}
use Rattle.matrix_elimination.specs.Fault.{IsProperDivisor}

-- residues, one for each column, with which each row sums to its value
pub record IsSolution (p width : ℕ) (rows : List (List ℕ)) (values solution : List ℕ) : Type 0 where
  pub vector : IsVector p width solution
  pub meets : (j : ℕ) → j < length rows → dot (slice_index_or rows j []) solution % p ≡ slice_index values j

-- the system has this solution, and no other
pub record IsOnlySolution (p width : ℕ) (rows : List (List ℕ)) (values solution : List ℕ) : Type 0 where
  pub is : IsSolution p width rows values solution
  pub only : (other : List ℕ) → IsSolution p width rows values other → other ≡ solution

-- under the multipliers the rows cancel, and the values sum to the residue, which isn't 0
pub record IsClash (p : ℕ) (rows : List (List ℕ)) (values multipliers : List ℕ) (residue : ℕ) : Type 0 where
  pub vector : IsVector p (length rows) multipliers
  pub cancels : (x : ℕ) → dot multipliers (column x rows) % p ≡ 0
  pub sum : dot multipliers values % p ≡ residue
  pub differs : residue ≢ 0

-- the system has solutions, and each row vanishes on the vector, whose first entry other than 0 is 1
pub record IsOpen (p width : ℕ) (rows : List (List ℕ)) (values vector : List ℕ) : Type 0 where
  pub is_vector : IsVector p width vector
  pub leads : HasLeadingOne vector
  pub vanishes : (j : ℕ) → j < length rows → dot (slice_index_or rows j []) vector % p ≡ 0
  pub solution : List ℕ
  pub is_solution : IsSolution p width rows values solution

-- why the system has no only solution, or none was found. Of memory nothing is said
abbrev pub HasSystemCause : ℕ → ℕ → List (List ℕ) → List ℕ → SystemFault → Type 0
HasSystemCause p width rows values (Clash multipliers residue) = IsClash p rows values multipliers residue
HasSystemCause p width rows values (Open vector) = IsOpen p width rows values vector
HasSystemCause p width rows values (Composite fault) = IsProperDivisor p fault.divisor
HasSystemCause p width rows values OutOfMemory = ⊤
