-- The independent external momenta, and momenta over them. The project's own.
use Rattle.std.specs.Prelude.{◌≡◌, ◌<◌, ◌+◌, ℕ, ℤ, Option, Some, None, List, length, remove, Ok}
use Rattle.yaml_text.specs.declared.tree.Tree.{Tree}
use Rattle.yaml_text.specs.Lines.{Bytes}
use Rattle.input_schema.specs.declared.faults.File.{File}
use Rattle.input_schema.specs.Readings.{Outcome, Reading, Is, Then}
use Rattle.input_schema.specs.Nodes.{line_of}
use Rattle.input_schema.specs.Texts.{ReadsMomentum}
use Rattle.input_schema.specs.Momenta.{replaced}
use Rattle.kinematics_schema.specs.declared.content.Conserved.{Conserved}

-- all momenta but the conserved one
abbrev pub independents : {A : Type 0} → Option Conserved → List A → List A
independents None names = names
independents (Some c) names = remove names c.place

-- the conserved momentum is one of so many, and its image has a coefficient for each other
abbrev pub HasCounts : Option Conserved → ℕ → Type 0
HasCounts None count = Unit {0}
HasCounts (Some c) count = (c.place < count) × (length c.image + 1 ≡ count)

-- a momentum with the conserved one replaced
abbrev pub independent : File → ℕ → Option Conserved → List ℤ → Outcome (List ℤ)
independent file line None momentum = Ok momentum
independent file line (Some c) momentum = replaced file line c.place c.image momentum

-- a scalar that writes a momentum over these names, as one over the independent ones
abbrev pub ReadsIndependent : File → List Bytes → Option Conserved → Tree → Reading (List ℤ)
ReadsIndependent file names conserved node = Then (ReadsMomentum file node names) (λ momentum. Is (independent file (line_of node) conserved momentum))
