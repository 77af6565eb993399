-- The texts of the kinds of fault, as messages show them. The project's own.
use Rattle.std.specs.Prelude.{ℕ, List, codes}
use Rattle.yaml_text.specs.Kinds as yaml
use Rattle.text_tokens.specs.declared.faults.TextKind.{TextKind}
use Rattle.text_tokens.specs.declared.faults.TextKind.TheVariants as text_kind
use Rattle.input_schema.specs.declared.faults.InputKind.{InputKind}
use Rattle.input_schema.specs.declared.faults.InputKind.TheVariants.{Missing, TooLong, Yaml, Shape, UnknownKey, MissingKey, BadName, ReservedName, DuplicateName, UnknownName, BadNumber, NumberTooWide, OutOfRange, BadExpression, BadMomentum, TooDeep, WrongCount, SectorOutside, RunFlag, ManyJobs, NoValue, BadOverride, BadLine, BadModulus, NotAPermutation}

abbrev pub text_of : InputKind → List ℕ
text_of Missing = codes "no such file"
text_of TooLong = codes "longer than 16777216 bytes"
text_of (Yaml kind) = yaml.text_of kind
text_of Shape = codes "the value has the wrong shape"
text_of UnknownKey = codes "unknown key"
text_of MissingKey = codes "a key is missing"
text_of BadName = codes "not a name"
text_of ReservedName = codes "reserved name"
text_of DuplicateName = codes "name used twice"
text_of UnknownName = codes "unknown name"
text_of BadNumber = codes "not a number"
text_of NumberTooWide = codes "wider than 128 bits"
text_of OutOfRange = codes "out of range"
text_of BadExpression = codes "not an expression"
text_of BadMomentum = codes "not a momentum"
text_of TooDeep = codes "nested too deep"
text_of WrongCount = codes "wrong count"
text_of SectorOutside = codes "sector outside the top level sectors"
text_of RunFlag = codes "only true is allowed"
text_of ManyJobs = codes "more than one job"
text_of NoValue = codes "no value given"
text_of BadOverride = codes "not NAME=VALUE"
text_of BadLine = codes "not an integral"
text_of BadModulus = codes "not an odd number from 3 below 2^63"
text_of NotAPermutation = codes "not a symmetry of the denominators"

-- the kind of a fault in the text of a momentum or a value
abbrev pub kind_of : TextKind → InputKind
kind_of text_kind.BadExpression = BadExpression
kind_of text_kind.BadMomentum = BadMomentum
kind_of text_kind.UnknownName = UnknownName
kind_of text_kind.NumberTooWide = NumberTooWide
kind_of text_kind.OutOfRange = OutOfRange
kind_of text_kind.TooDeep = TooDeep
