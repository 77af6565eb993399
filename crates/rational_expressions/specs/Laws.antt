-- Laws of the readings of values, and of the values of expressions. The project's own.
use Rattle.std.specs.Prelude.{◌≡◌, ◌<◌, ℕ, List}
use Rattle.text_tokens.specs.declared.faults.TextKind.{TextKind}
use Rattle.rational_expressions.specs.Trees.{Tree}
use Rattle.rational_expressions.specs.Evaluation.{Outcome, HasOutcome}
use Rattle.rational_expressions.specs.Values.{IsValue, IsValueFault}

-- a text has at most one reading as a value
abbrev pub ReadsAsOneValue : Type 0
ReadsAsOneValue = (names : List (List ℕ)) (text : List ℕ) (t u : Tree) → IsValue names text t → IsValue names text u → t ≡ u

-- it has at most one first fault
abbrev pub HasOneValueFault : Type 0
HasOneValueFault =
    (names : List (List ℕ)) (text : List ℕ) (a b : ℕ) (j k : TextKind) → IsValueFault names text a j → IsValueFault names text b k → (a ≡ b) × (j ≡ k)

-- and never both
abbrev pub ValueHasNoFault : Type 0
ValueHasNoFault = (names : List (List ℕ)) (text : List ℕ) (t : Tree) (at : ℕ) (kind : TextKind) → IsValue names text t → IsValueFault names text at kind → ⊥

-- an expression has at most one value or fault modulo a number above 1
abbrev pub HasOneOutcome : Type 0
HasOneOutcome = (p : ℕ) (residues : List ℕ) (t : Tree) (r q : Outcome) → 1 < p → HasOutcome p residues t r → HasOutcome p residues t q → r ≡ q
