-- What the seeds have to know of the families. The project's own.
use Rattle.std.specs.Prelude.{List, map}
use Rattle.seed_sets.specs.declared.Shape.{Shape}
use Rattle.family_schema.specs.declared.content.Family.{Family}

-- the width of a family, and its zero sectors
abbrev pub shape_of : Family → Shape
shape_of family = record { width = family.width; zeros = family.zero_sectors }

abbrev pub shapes_of : List Family → List Shape
shapes_of families = map shape_of families
