-- Laws of the readings of scalars. The project's own.
use Rattle.std.specs.Prelude.{List}
use Rattle.yaml_text.specs.declared.tree.Tree.{Tree}
use Rattle.yaml_text.specs.Lines.{Bytes}
use Rattle.input_schema.specs.declared.faults.File.{File}
use Rattle.input_schema.specs.Readings.{IsSingle}
use Rattle.input_schema.specs.Texts.{ReadsMomentum, ReadsValue}

-- a scalar has at most one momentum or fault, and at most one value or fault
abbrev pub MomentaAreSingle : Type 0
MomentaAreSingle = (file : File) (node : Tree) (names : List Bytes) → IsSingle (ReadsMomentum file node names)

abbrev pub ValuesAreSingle : Type 0
ValuesAreSingle = (file : File) (node : Tree) (names : List Bytes) → IsSingle (ReadsValue file node names)
