-- The keys of a map, as a set.
use Rattle.std.specs.Prelude.{List, map}
use Rattle.yaml_text.specs.declared.keys.Keys.TheInside.{Inside}
use Rattle.yaml_text.specs.Lines.{Bytes}

abbrev pub keys_of : Inside → List Bytes
keys_of k = map (λ x. x.now) k.set.keys
