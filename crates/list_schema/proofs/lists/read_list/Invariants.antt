use Rattle.std.proofs.Common.{◌≡◌, ◌≤◌, ◌+◌, length}
use Rattle.yaml_text.specs.Lines.{cut}
use Rattle.input_schema.specs.declared.faults.File.TheVariants.{List as ListNumber}
use Rattle.input_schema.specs.Readings.{each}
use Rattle.list_schema.specs.Lists.{on_line, lines_from, list_file}
use Rattle.list_schema.proofs.lists.read_list.Given as goal

abbrev pub invariant-loop-rest : goal.invariant-loop-rest
invariant-loop-rest l =
    (list_file (ListNumber l.number) l.family l.name l.width l.text ≡ each (on_line (ListNumber l.number) l.family l.name l.width) l.found (lines_from (l.line + 1) (cut l.rest)))
    × (l.line + length l.rest ≤ length l.text)

abbrev pub decreases-loop-rest : goal.decreases-loop-rest
decreases-loop-rest l = length l.rest
