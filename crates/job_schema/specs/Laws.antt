-- Laws of the reading of the jobs file and of the words. The project's own.
use Rattle.std.specs.Prelude.{List}
use Rattle.yaml_text.specs.declared.tree.Tree.{Tree}
use Rattle.yaml_text.specs.Lines.{Bytes}
use Rattle.input_schema.specs.Readings.{Is, NeverSaysMissing}
use Rattle.job_schema.specs.declared.frames.Frame.{Frame}
use Rattle.job_schema.specs.declared.points.PointInput.{PointInput}
use Rattle.job_schema.specs.Overridden.{Override}
use Rattle.job_schema.specs.Jobs.{jobs}
use Rattle.job_schema.specs.Overrides.{numeric_point}

abbrev pub JobsNeverSayMissing : Type 0
JobsNeverSayMissing = (names : List Bytes) (frames : List Frame) (parameters : List Bytes) (tree : Tree) → NeverSaysMissing (Is (jobs names frames parameters tree))

abbrev pub PointsNeverSayMissing : Type 0
PointsNeverSayMissing = (names : List Bytes) (point : PointInput) (words : List Override) → NeverSaysMissing (Is (numeric_point names point words))
