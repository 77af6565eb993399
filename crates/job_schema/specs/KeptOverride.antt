-- How a word is kept: as it is seen, and shorter than 2^31 bytes.
use Rattle.std.specs.Prelude.{◌<◌, ◌^◌, length}
use Rattle.job_schema.specs.declared.overrides.Override.TheInside.{Inside}
use Rattle.job_schema.specs.Overridden.{Override}

abbrev pub shown : Inside → Override
shown a = record { place = a.place; text = a.text.items }

abbrev pub IsKept : Inside → Type 0
IsKept a = length a.text.items < 2 ^ 31
