-- Scalars, lists, pairs and flags: the nodes of a tree that a schema asks for. The project's own.
use Rattle.std.specs.Prelude.{ℕ, if◌then◌else◌, ◌&&◌, nat_le, List, [], ◌∷◌, length, Ok, codes}
use Rattle.std.specs.Str.{bytes_eq}
use Rattle.yaml_text.specs.declared.tree.Tree.{Tree, out-Tree}
use Rattle.yaml_text.specs.declared.tree.Value.{Value, out-Value}
use Rattle.yaml_text.specs.declared.tree.Pair.{Pair}
use Rattle.yaml_text.specs.declared.tree.Value.TheOpen.{Value-F}
use Rattle.yaml_text.specs.Lines.{Bytes}
use Rattle.input_schema.specs.declared.faults.File.{File}
use Rattle.input_schema.specs.declared.faults.InputKind.TheVariants.{Shape, OutOfRange, RunFlag}
use Rattle.input_schema.specs.Readings.{Outcome, refuse, ◌>>=◌}

abbrev pub line_of : Tree → ℕ
line_of node = (out-Tree node).line

abbrev pub Layer : Type 0
Layer = Value-F Value Pair Tree

-- what a node is
abbrev pub layer_of : Tree → Layer
layer_of node = out-Value (out-Tree node).value

abbrev pub scalar_in : File → ℕ → Layer → Outcome Bytes
scalar_in file line (Value-F.Scalar text) = Ok text
scalar_in file line _ = refuse file line Shape

-- the text of a scalar
abbrev pub scalar : File → Tree → Outcome Bytes
scalar file node = scalar_in file (line_of node) (layer_of node)

abbrev pub list_in : File → ℕ → Layer → Outcome (List Tree)
list_in file line (Value-F.List nodes) = Ok nodes
list_in file line _ = refuse file line Shape

-- the items of a list, of any length
abbrev pub list : File → Tree → Outcome (List Tree)
list file node = list_in file (line_of node) (layer_of node)

abbrev pub within : File → ℕ → ℕ → ℕ → List Tree → Outcome (List Tree)
within file line least most nodes =
    if nat_le least (length nodes) && nat_le (length nodes) most then Ok nodes else refuse file line OutOfRange

-- the items of a list whose length has this range
abbrev pub items : File → Tree → ℕ → ℕ → Outcome (List Tree)
items file node least most = list file node >>= within file (line_of node) least most

abbrev pub two : File → ℕ → List Tree → Outcome (Tree × Tree)
two file line (a ∷ b ∷ []) = Ok (a, b)
two file line _ = refuse file line Shape

-- the items of a list of two
abbrev pub pair : File → Tree → Outcome (Tree × Tree)
pair file node = list file node >>= two file (line_of node)

-- a scalar that must be `true`
abbrev pub flag : File → Tree → Outcome (Unit {0})
flag file node = scalar file node >>= (λ text. if bytes_eq text (codes "true") then Ok tt else refuse file (line_of node) RunFlag)
