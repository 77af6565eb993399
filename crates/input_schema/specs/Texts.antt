-- Scalars that write a momentum or a value over declared names. The project's own.
use Rattle.std.specs.Prelude.{◌≡◌, ℕ, ℤ, List, Ok, Err}
use Rattle.yaml_text.specs.declared.tree.Tree.{Tree}
use Rattle.yaml_text.specs.Lines.{Bytes}
use Rattle.text_tokens.specs.declared.faults.TextKind.{TextKind}
use Rattle.momentum_sums.specs.Momenta.{IsMomentum, IsMomentumFault}
use Rattle.rational_expressions.specs.Values.{IsValue, IsValueFault}
use Rattle.rational_expressions.specs.Trees as trees
use Rattle.input_schema.specs.declared.faults.File.{File}
use Rattle.input_schema.specs.declared.faults.InputFault.{InputFault}
use Rattle.input_schema.specs.Kinds.{kind_of}
use Rattle.input_schema.specs.Readings.{Reading, Is, Then}
use Rattle.input_schema.specs.Nodes.{line_of, scalar}

-- a fault of a text, wherever it stands in it, is this fault of the file
pub record IsFaultOf (file : File) (line : ℕ) (IsTextFault : ℕ → TextKind → Type 0) (fault : InputFault) : Type 0 where
  pub at : ℕ
  pub kind : TextKind
  pub is : IsTextFault at kind
  pub told : fault ≡ record { file = file; line = line; kind = kind_of kind }

abbrev pub MomentumText : File → ℕ → List Bytes → Bytes → Reading (List ℤ)
MomentumText file line names text (Ok momentum) = IsMomentum names text momentum
MomentumText file line names text (Err fault) = IsFaultOf file line (IsMomentumFault names text) fault

abbrev pub ValueText : File → ℕ → List Bytes → Bytes → Reading trees.Tree
ValueText file line names text (Ok value) = IsValue names text value
ValueText file line names text (Err fault) = IsFaultOf file line (IsValueFault names text) fault

-- a scalar that writes a momentum over these names
abbrev pub ReadsMomentum : File → Tree → List Bytes → Reading (List ℤ)
ReadsMomentum file node names = Then (Is (scalar file node)) (MomentumText file (line_of node) names)

-- a scalar that writes a value over these names
abbrev pub ReadsValue : File → Tree → List Bytes → Reading trees.Tree
ReadsValue file node names = Then (Is (scalar file node)) (ValueText file (line_of node) names)
