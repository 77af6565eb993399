-- What the text of a table tells of it. The project's own.
use Rattle.std.specs.Prelude.{◌≡◌, ◌≢◌, ℕ, ◌<◌, ◌≤◌, ◌^◌, List, length, All, AllPairs, Contains}
use Rattle.integral_index.specs.Integral.{Integral, IsIndex}
use Rattle.text_tokens.specs.Names.{IsName}
use Rattle.sparse_row.specs.Row.{IsRow}
use Rattle.reduction_core.specs.Table.{Table}
use Rattle.reduction_core.specs.NormalForm.{IsMaster}
use Rattle.table_text.specs.Pieces.{name_of}
use Rattle.table_text.specs.TableText.{form_of, table_text}

-- a name in which no line feed, no blank and no opening bracket stands
abbrev pub IsPlain : List ℕ → Type 0
IsPlain name = All (λ byte. (byte ≢ 10) × (byte ≢ 32) × (byte ≢ 91)) name

-- the names of the families: each is plain, and no two are equal
pub record AreFamilyNames (names : List (List ℕ)) : Type 0 where
  pub plain : All IsPlain names
  pub differ : AllPairs (λ name other. name ≢ other) names

-- an integral of a family that has a name, with indices as integrals have them
pub record IsNamed (names : List (List ℕ)) (x : Integral) : Type 0 where
  pub family : x.family < length names
  pub indices : All IsIndex x.indices

-- the text of a table of residues for a selection; the selected integrals and the masters are named
pub record IsTextOf (names : List (List ℕ)) (zeros : ℕ → List ℕ) (table : Table) (selection : List Integral) (text : List ℕ) : Type 0 where
  pub above_1 : 1 < table.modulus
  pub word : table.modulus ≤ 2 ^ 64
  pub rows : All (IsRow table.modulus table.order) table.rows
  pub selected : All (IsNamed names) selection
  pub masters : (y : Integral) → IsMaster table.modulus table.order zeros table.rows selection y → IsNamed names y
  pub is : text ≡ table_text (name_of names) zeros table selection

-- one text is the text for one selection only
abbrev pub TextTellsSelection : Type 0
TextTellsSelection =
    (names : List (List ℕ)) (zeros others : ℕ → List ℕ) (table other : Table) (selection chosen : List Integral) (text : List ℕ)
    → AreFamilyNames names → IsTextOf names zeros table selection text → IsTextOf names others other chosen text → selection ≡ chosen

-- and the normal forms of a selected integral have the same terms, whatever moduli, orders and zero sectors the two tables have
abbrev pub TextTellsTerms : Type 0
TextTellsTerms =
    (names : List (List ℕ)) (zeros others : ℕ → List ℕ) (table other : Table) (selection chosen : List Integral) (text : List ℕ) (x : Integral)
    → AreFamilyNames names → IsTextOf names zeros table selection text → IsTextOf names others other chosen text
    → Contains selection x → (form_of zeros table x).terms ≡ (form_of others other x).terms

-- so under tables of one order they are equal
abbrev pub TextTellsNormalForms : Type 0
TextTellsNormalForms =
    (names : List (List ℕ)) (zeros others : ℕ → List ℕ) (table other : Table) (selection chosen : List Integral) (text : List ℕ) (x : Integral)
    → AreFamilyNames names → IsTextOf names zeros table selection text → IsTextOf names others other chosen text
    → table.order ≡ other.order → Contains selection x → form_of zeros table x ≡ form_of others other x

-- a name as the input has it is plain
abbrev pub NamesArePlain : Type 0
NamesArePlain = (name : List ℕ) → IsName name → IsPlain name
