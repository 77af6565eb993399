-- No reading of a list file says that the file is missing.
use Rattle.std.proofs.Common.{◌==◌, ℕ, Bool, List, [], ◌∷◌, ◌++◌, length}
use Rattle.std.specs.Str.{bytes_eq}
use Rattle.yaml_text.specs.Lines.{Bytes, cut}
use Rattle.input_schema.specs.declared.faults.File.{File}
use Rattle.input_schema.specs.Readings.{each}
use Rattle.input_schema.proofs.Present.{IsPresent, passed, refused, behind, either, each_read, is_present}
use Rattle.list_schema.specs.Indices.{pieces, index, indices}
use Rattle.list_schema.specs.Lists.{name_in, inner, is_integral, counted, integral, Line, lines_from, on_line, list_file}
use Rattle.list_schema.specs.Laws.{ListsNeverSayMissing}

line_present : (file : File) (family : ℕ) (name : Bytes) (width : ℕ) (line : Line) → IsPresent (on_line file family name width line)
line_present file family name width line =
    either (is_integral line.text) _ _
    (either (bytes_eq (name_in line.text) name) (counted file line.number family width (inner line.text)) _
    (either (length (pieces (inner line.text)) == width) _ _
    (behind _ _ (each_read (index file line.number) (λ piece. either _ _ _ passed (refused tt)) [] (pieces (inner line.text))) (λ found. passed)) (refused tt)) (refused tt)) (refused tt)

pub lists_present : ListsNeverSayMissing
unfolding list_file
lists_present file family name width text = is_present _ (each_read (on_line file family name width) (line_present file family name width) [] (lines_from 1 (cut text)))
