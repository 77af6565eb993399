-- What contracts see of a key of a table.
use Rattle.input_schema.specs.declared.maps.Key.TheInside.{Inside}
use Rattle.input_schema.specs.Maps.{Key}

abbrev pub seen_key : Inside → Key
seen_key k = record { name = k.name.now; is_needed = k.is_needed }
