-- What contracts see of the text of a key or a scalar, and what it always meets.
use Rattle.std.specs.Prelude.{◌<◌, ◌^◌, length}
use Rattle.std.specs.Str.{IsAscii}
use Rattle.yaml_text.specs.declared.token.Words.TheInside.{Inside}
use Rattle.yaml_text.specs.Words.{Words}

abbrev pub words_of : Inside → Words
words_of w = record { plain = w.plain; text = w.text.now }

abbrev pub IsShort : Inside → Type 0
IsShort w = IsAscii w.text.now × (length w.text.now < 2 ^ 32)
