-- Which keys stand before a pair of a map.
use Rattle.std.specs.Prelude.{◌≡◌, Bool, List}
use Rattle.std.specs.List.{list_any}
use Rattle.std.specs.Str.{bytes_eq}
use Rattle.yaml_text.specs.Lines.{Bytes}

abbrev pub has_key : Bytes → List Bytes → Bool
has_key key keys = list_any (bytes_eq key) keys

-- The same keys, in whatever order.
abbrev pub SameKeys : List Bytes → List Bytes → Type 0
SameKeys xs ys = (key : Bytes) → has_key key xs ≡ has_key key ys
