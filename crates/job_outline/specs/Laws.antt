-- Laws of the reading of a job. The project's own.
use Rattle.std.specs.Prelude.{◌≡◌, List, Ok}
use Rattle.field_word.specs.Residues.{IsModulus}
use Rattle.yaml_text.specs.declared.tree.Tree.{Tree}
use Rattle.input_schema.specs.Readings.{IsSingle, NeverSaysMissing}
use Rattle.job_schema.specs.Overridden.{Override}
use Rattle.job_outline.specs.Outlines.{Outline}
use Rattle.job_outline.specs.Readings.{ReadsOutline}

abbrev pub OutlineIsSingle : Type 0
OutlineIsSingle = (families kinematics jobs : Tree) (words : List Override) → IsSingle (ReadsOutline families kinematics jobs words)

-- the modulus of an outline is one that serves
abbrev pub OutlinesHaveAModulus : Type 0
OutlinesHaveAModulus =
    (families kinematics jobs : Tree) (words : List Override) (outline : Outline) → ReadsOutline families kinematics jobs words (Ok outline) → IsModulus outline.point.prime

-- the same trees select the same, whatever the words are
abbrev pub OneSelection : Type 0
OneSelection =
    (families kinematics jobs : Tree) (words others : List Override) (one other : Outline)
    → ReadsOutline families kinematics jobs words (Ok one) → ReadsOutline families kinematics jobs others (Ok other) → one.select ≡ other.select

-- no trees and words are refused as a file that is missing
abbrev pub OutlinesNeverSayMissing : Type 0
OutlinesNeverSayMissing = (families kinematics jobs : Tree) (words : List Override) → NeverSaysMissing (ReadsOutline families kinematics jobs words)
