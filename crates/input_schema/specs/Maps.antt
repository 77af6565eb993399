-- Maps with known keys. The project's own.
use Rattle.std.specs.Prelude.{ℕ, Bool, not, ◌&&◌, if◌then◌else◌, List, [], ◌∷◌, Option, Some, None, Ok, refl, is_some}
use Rattle.std.specs.Coded.{Coded, code_by, coded×, coded_ℕ, coded_list, coded_bool}
use Rattle.std.specs.List.{list_any}
use Rattle.std.specs.Str.{bytes_eq}
use Rattle.yaml_text.specs.declared.tree.Tree.{Tree}
use Rattle.yaml_text.specs.declared.tree.Value.TheOpen.{Value-F}
use Rattle.yaml_text.specs.declared.tree.Pair.{Pair, out-Pair}
use Rattle.yaml_text.specs.Lines.{Bytes}
use Rattle.input_schema.specs.declared.faults.File.{File}
use Rattle.input_schema.specs.declared.faults.InputKind.TheVariants.{Shape, UnknownKey, MissingKey}
use Rattle.input_schema.specs.Readings.{Outcome, refuse, ◌>>=◌}
use Rattle.input_schema.specs.Nodes.{Layer, line_of, layer_of}

-- a key that a map may have, and whether it must have it
pub record Key : Type 0 where
  pub name : Bytes
  pub is_needed : Bool

abbrev pub key_code : Coded Key
key_code = code_by (Bytes × Bool) (coded× (coded_list coded_ℕ) coded_bool) (λ k. (k.name, k.is_needed)) (λ p. record { name = p.0; is_needed = p.1 }) (λ _. refl)

abbrev pub key_of : Pair → Bytes
key_of pair = (out-Pair pair).key

-- the value of the first pair with this key; a tree that was read has no second
abbrev pub value_of : List Pair → Bytes → Option Tree
value_of [] key = None
value_of (p ∷ ps) key = if bytes_eq (key_of p) key then Some (out-Pair p).value else value_of ps key

abbrev pub map_in : File → ℕ → Layer → Outcome (List Pair)
map_in file line (Value-F.Map pairs) = Ok pairs
map_in file line _ = refuse file line Shape

abbrev pub pairs_of : File → Tree → Outcome (List Pair)
pairs_of file node = map_in file (line_of node) (layer_of node)

abbrev pub is_known : List Key → Pair → Bool
is_known table pair = list_any (λ k. bytes_eq k.name (key_of pair)) table

-- each key is in the table; else the first that isn't
abbrev pub known : File → List Key → List Pair → Outcome (Unit {0})
known file table [] = Ok tt
known file table (p ∷ ps) = if is_known table p then known file table ps else refuse file (out-Pair p).line UnknownKey

abbrev pub lacks : List Pair → Key → Bool
lacks pairs key = key.is_needed && not (is_some (value_of pairs key.name))

-- each key that must be there is
abbrev pub complete : File → ℕ → List Key → List Pair → Outcome (Unit {0})
complete file line table pairs = if list_any (lacks pairs) table then refuse file line MissingKey else Ok tt

-- The pairs of a map with the keys of a table: it is a map; all its keys are known, in the order of the
-- file; and all that it must have are there.
abbrev pub fields : File → List Key → Tree → Outcome (List Pair)
fields file table node =
    pairs_of file node >>= (λ pairs. known file table pairs >>= (λ _. complete file (line_of node) table pairs >>= (λ _. Ok pairs)))

abbrev pub present : File → ℕ → Option Tree → Outcome Tree
present file line (Some node) = Ok node
present file line None = refuse file line MissingKey

-- the value of a key that must be there, in a map that begins on this line
abbrev pub needed : File → ℕ → List Pair → Bytes → Outcome Tree
needed file line pairs key = present file line (value_of pairs key)
