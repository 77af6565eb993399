-- The texts of the kinds of fault, as messages show them. The project's own.
use Rattle.std.specs.Prelude.{ℕ, List, codes}
use Rattle.yaml_text.specs.declared.fault.YamlKind.{YamlKind}
use Rattle.yaml_text.specs.declared.fault.YamlKind.TheVariants.{Tab, NotAscii, Quote, Document, Merge, Indicator, BlockScalar, Flow, Indent, NoColon, DuplicateKey, TooDeep}

abbrev pub text_of : YamlKind → List ℕ
text_of Tab = codes "a tab outside comments"
text_of NotAscii = codes "a byte that is not printable ASCII"
text_of Quote = codes "a single quote, backslash or open quote"
text_of Document = codes "a document mark"
text_of Merge = codes "a merge key"
text_of Indicator = codes "an anchor, alias, tag or other indicator"
text_of BlockScalar = codes "a block scalar"
text_of Flow = codes "not a value on one line"
text_of Indent = codes "wrong indentation"
text_of NoColon = codes "a key without a colon"
text_of DuplicateKey = codes "key used twice"
text_of TooDeep = codes "nested too deep"
