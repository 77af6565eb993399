-- What contracts see of the types that keep a part of the text, and what these always meet.
use Rattle.std.specs.Prelude.{◌<◌, ◌+◌, ◌^◌, length}
use Rattle.std.specs.Str.{IsAscii}
use Rattle.yaml_text.specs.declared.line.Line.TheInside.{Inside}
use Rattle.yaml_text.specs.Lines.{Line}

abbrev pub line_of : Inside → Line
line_of l = record { number = l.number; indent = l.indent; text = l.text.now }

abbrev pub IsShort : Inside → Type 0
IsShort l = IsAscii l.text.now × (l.indent + length l.text.now < 2 ^ 32)
