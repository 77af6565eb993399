-- Names that are declared, and references to them. The project's own.
use Rattle.std.specs.Prelude.{ℕ, Bool, ◌||◌, if◌then◌else◌, List, Ok, codes}
use Rattle.std.specs.Str.{bytes_eq}
use Rattle.yaml_text.specs.declared.tree.Tree.{Tree}
use Rattle.yaml_text.specs.Lines.{Bytes}
use Rattle.text_tokens.specs.Names.{is_name, is_among}
use Rattle.rational_expressions.specs.Values.{place_of}
use Rattle.input_schema.specs.declared.faults.File.{File}
use Rattle.input_schema.specs.declared.faults.InputKind.TheVariants.{BadName, ReservedName, DuplicateName, UnknownName}
use Rattle.input_schema.specs.Readings.{Outcome, refuse, ◌>>=◌}
use Rattle.input_schema.specs.Nodes.{line_of, scalar}

-- the names of the dimension and of the modulus, which no one may declare
abbrev pub is_reserved : Bytes → Bool
is_reserved text = bytes_eq text (codes "d") || bytes_eq text (codes "prime")

abbrev pub name_at : File → ℕ → Bytes → Outcome Bytes
name_at file line text =
    if is_name text then (if is_reserved text then refuse file line ReservedName else Ok text) else refuse file line BadName

-- a scalar that may be declared as a name
abbrev pub name : File → Tree → Outcome Bytes
name file node = scalar file node >>= name_at file (line_of node)

-- a name that isn't among the declared ones
abbrev pub fresh : File → ℕ → List Bytes → Bytes → Outcome (Unit {0})
fresh file line declared text = if is_among declared text then refuse file line DuplicateName else Ok tt

-- a scalar that declares a name which isn't among these
abbrev pub new_name : File → Tree → List Bytes → Outcome Bytes
new_name file node declared = name file node >>= (λ text. fresh file (line_of node) declared text >>= (λ _. Ok text))

abbrev pub reference_at : File → ℕ → List Bytes → Bytes → Outcome ℕ
reference_at file line declared text =
    if is_name text
    then (if is_among declared text then Ok (place_of declared text) else refuse file line UnknownName)
    else refuse file line BadName

-- a scalar that names one of these, as its place among them, counted from 0
abbrev pub reference : File → Tree → List Bytes → Outcome ℕ
reference file node declared = scalar file node >>= reference_at file (line_of node) declared
