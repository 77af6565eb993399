-- No reading of a part of a file says that the file is missing.
use Rattle.std.proofs.Common.{◌≡◌, ℕ, ℤ, Bool, true, false, cond, List, [], ◌∷◌, ◌++◌, Option, Some, None, Result, Ok, Err, length, nat_le, sym, subst}
use Rattle.yaml_text.specs.declared.tree.Tree.{Tree}
use Rattle.yaml_text.specs.declared.tree.Value.TheOpen.{Value-F}
use Rattle.yaml_text.specs.declared.tree.Pair.{Pair}
use Rattle.yaml_text.specs.Lines.{Bytes}
use Rattle.text_tokens.specs.declared.faults.TextKind.{TextKind}
use Rattle.text_tokens.specs.declared.faults.TextKind.TheVariants as text_kind
use Rattle.text_tokens.specs.Names.{is_name}
use Rattle.input_schema.specs.declared.faults.File.{File}
use Rattle.input_schema.specs.declared.faults.InputFault.{InputFault}
use Rattle.input_schema.specs.declared.faults.InputKind.{InputKind}
use Rattle.input_schema.specs.Readings.{Outcome, refuse, ◌>>=◌, each, Reading, Is, After, Then, IfGiven, Each, IsNotMissing, NeverSaysMissing}
use Rattle.input_schema.specs.Kinds.{kind_of}
use Rattle.input_schema.specs.Nodes.{Layer, layer_of, line_of, scalar_in, scalar, list_in, list, within, items, two, pair, flag}
use Rattle.input_schema.specs.Numbers.{is_number, written_number, wide_number, in_range, number}
use Rattle.input_schema.specs.Maps.{Key, map_in, pairs_of, is_known, known, complete, fields, present, needed, value_of}
use Rattle.input_schema.specs.Names.{is_reserved, name_at, name, fresh, new_name, reference_at, reference}
use Rattle.input_schema.specs.Momenta.{checked, replaced}
use Rattle.input_schema.specs.Texts.{IsFaultOf, MomentumText, ValueText, ReadsMomentum, ReadsValue}

-- ---- outcomes

abbrev HasOther : {A : Type 0} → Outcome A → Type 0
HasOther (Ok a) = Unit {0}
HasOther (Err fault) = IsNotMissing fault.kind

-- the outcome isn't the fault that the file is missing
pub record IsPresent {A : Type 0} (o : Outcome A) : Type 0 where
  pub is : HasOther o

pub passed : {A : Type 0} {a : A} → IsPresent (Ok a)
passed = record { is = tt }

pub refused : {A : Type 0} {file : File} {line : ℕ} {kind : InputKind} → IsNotMissing kind → IsPresent (refuse {A = A} file line kind)
refused h = record { is = h }

-- what follows a part
pub behind : {A B : Type 0} (o : Outcome A) (f : A → Outcome B) → IsPresent o → ((a : A) → IsPresent (f a)) → IsPresent (o >>= f)
behind (Ok a) f h k = k a
behind (Err fault) f h k = record { is = h.is }

pub either : {A : Type 0} (b : Bool) (x y : Outcome A) → IsPresent x → IsPresent y → IsPresent (cond b x y)
either true x y h k = h
either false x y h k = k

pub each_read : {N A : Type 0} (read : N → Outcome A) → ((item : N) → IsPresent (read item)) → (found : List A) (items : List N) → IsPresent (each read found items)
each_read read h found [] = passed
each_read read h found (item ∷ items) = behind (read item) (λ a. each read (found ++ a ∷ []) items) (h item) (λ a. each_read read h (found ++ a ∷ []) items)

-- ---- readings

pub is_present : {A : Type 0} (o : Outcome A) → IsPresent o → NeverSaysMissing (Is o)
is_present {A} o h fault e = subst (λ (x : Outcome A). HasOther x) e h.is

never_after : {A B : Type 0} (next : A → Reading B) (o : Outcome A) → IsPresent o → ((a : A) → NeverSaysMissing (next a)) → NeverSaysMissing (After o next)
never_after next (Ok a) h k fault e = k a fault e
never_after {A} {B} next (Err x) h k fault e = subst (λ (r : Outcome B). HasOther r) (sym e) h.is

never_at : {A : Type 0} (reading : Reading A) (o : Outcome A) → NeverSaysMissing reading → reading o → IsPresent o
never_at reading (Ok a) h is = passed
never_at reading (Err fault) h is = record { is = h fault is }

pub then_present : {A B : Type 0} (first : Reading A) (next : A → Reading B) → NeverSaysMissing first → ((a : A) → NeverSaysMissing (next a)) → NeverSaysMissing (Then first next)
then_present first next h k fault parts = never_after next parts.outcome (never_at first parts.outcome h parts.is) k fault parts.after

pub given_present : {N A : Type 0} (part : Option N) (missing : A) (read : N → Reading A) → ((node : N) → NeverSaysMissing (read node)) → NeverSaysMissing (IfGiven part missing read)
given_present None missing read h = is_present (Ok missing) passed
given_present (Some node) missing read h = h node

pub each_present : {N A : Type 0} (read : List A → N → Reading A) → ((found : List A) (node : N) → NeverSaysMissing (read found node)) → (found : List A) (nodes : List N) → NeverSaysMissing (Each read found nodes)
each_present read h found [] = λ fault e. is_present (Ok found) passed fault (sym e)
each_present read h found (node ∷ nodes) =
    then_present (read found node) (λ a. Each read (found ++ a ∷ []) nodes) (h found node) (λ a. each_present read h (found ++ a ∷ []) nodes)

-- ---- nodes

scalar_in_present : (file : File) (line : ℕ) (layer : Layer) → IsPresent (scalar_in file line layer)
scalar_in_present file line Value-F.Empty = refused tt
scalar_in_present file line (Value-F.Scalar text) = passed
scalar_in_present file line (Value-F.List nodes) = refused tt
scalar_in_present file line (Value-F.Map pairs) = refused tt

pub scalar_present : (file : File) (node : Tree) → IsPresent (scalar file node)
scalar_present file node = scalar_in_present file (line_of node) (layer_of node)

list_in_present : (file : File) (line : ℕ) (layer : Layer) → IsPresent (list_in file line layer)
list_in_present file line Value-F.Empty = refused tt
list_in_present file line (Value-F.Scalar text) = refused tt
list_in_present file line (Value-F.List nodes) = passed
list_in_present file line (Value-F.Map pairs) = refused tt

pub list_present : (file : File) (node : Tree) → IsPresent (list file node)
list_present file node = list_in_present file (line_of node) (layer_of node)

pub items_present : (file : File) (node : Tree) (least most : ℕ) → IsPresent (items file node least most)
items_present file node least most = behind (list file node) (within file (line_of node) least most) (list_present file node) (λ nodes. either _ _ _ passed (refused tt))

two_present : (file : File) (line : ℕ) (nodes : List Tree) → IsPresent (two file line nodes)
two_present file line [] = refused tt
two_present file line (a ∷ []) = refused tt
two_present file line (a ∷ b ∷ []) = passed
two_present file line (a ∷ b ∷ c ∷ rest) = refused tt

pub pair_present : (file : File) (node : Tree) → IsPresent (pair file node)
pair_present file node = behind (list file node) (two file (line_of node)) (list_present file node) (two_present file (line_of node))

pub flag_present : (file : File) (node : Tree) → IsPresent (flag file node)
flag_present file node = behind (scalar file node) _ (scalar_present file node) (λ text. either _ _ _ passed (refused tt))

-- ---- numbers

pub written_number_present : (file : File) (line : ℕ) (text : Bytes) → IsPresent (written_number file line text)
written_number_present file line text = either (is_number text) _ _ (either _ _ _ passed (refused tt)) (refused tt)

pub wide_number_present : (file : File) (node : Tree) → IsPresent (wide_number file node)
wide_number_present file node = behind (scalar file node) (written_number file (line_of node)) (scalar_present file node) (written_number_present file (line_of node))

pub number_present : (file : File) (node : Tree) (least most : ℕ) → IsPresent (number file node least most)
number_present file node least most = behind (wide_number file node) (in_range file (line_of node) least most) (wide_number_present file node) (λ n. either _ _ _ passed (refused tt))

-- ---- maps

map_in_present : (file : File) (line : ℕ) (layer : Layer) → IsPresent (map_in file line layer)
map_in_present file line Value-F.Empty = refused tt
map_in_present file line (Value-F.Scalar text) = refused tt
map_in_present file line (Value-F.List nodes) = refused tt
map_in_present file line (Value-F.Map pairs) = passed

known_present : (file : File) (table : List Key) (pairs : List Pair) → IsPresent (known file table pairs)
known_present file table [] = passed
known_present file table (p ∷ ps) = either (is_known table p) (known file table ps) _ (known_present file table ps) (refused tt)

pub fields_present : (file : File) (table : List Key) (node : Tree) → IsPresent (fields file table node)
fields_present file table node =
    behind (pairs_of file node) _ (map_in_present file (line_of node) (layer_of node)) (λ pairs.
    behind (known file table pairs) _ (known_present file table pairs) (λ _.
    behind (complete file (line_of node) table pairs) _ (either _ _ _ (refused tt) passed) (λ _. passed)))

there : (file : File) (line : ℕ) (node : Option Tree) → IsPresent (present file line node)
there file line None = refused tt
there file line (Some node) = passed

pub needed_present : (file : File) (line : ℕ) (pairs : List Pair) (key : Bytes) → IsPresent (needed file line pairs key)
needed_present file line pairs key = there file line (value_of pairs key)

-- ---- names

pub name_present : (file : File) (node : Tree) → IsPresent (name file node)
name_present file node = behind (scalar file node) (name_at file (line_of node)) (scalar_present file node) (λ text. either (is_name text) _ _ (either (is_reserved text) _ _ (refused tt) passed) (refused tt))

pub fresh_present : (file : File) (line : ℕ) (declared : List Bytes) (text : Bytes) → IsPresent (fresh file line declared text)
fresh_present file line declared text = either _ _ _ (refused tt) passed

pub new_name_present : (file : File) (node : Tree) (declared : List Bytes) → IsPresent (new_name file node declared)
new_name_present file node declared =
    behind (name file node) _ (name_present file node) (λ text. behind (fresh file (line_of node) declared text) _ (fresh_present file (line_of node) declared text) (λ _. passed))

pub reference_present : (file : File) (node : Tree) (declared : List Bytes) → IsPresent (reference file node declared)
reference_present file node declared =
    behind (scalar file node) (reference_at file (line_of node) declared) (scalar_present file node) (λ text. either (is_name text) _ _ (either _ _ _ passed (refused tt)) (refused tt))

-- ---- momenta and values

pub replaced_present : (file : File) (line place : ℕ) (image momentum : List ℤ) → IsPresent (replaced file line place image momentum)
replaced_present file line place image momentum = either _ _ _ passed (refused tt)

kind_present : (kind : TextKind) → IsNotMissing (kind_of kind)
kind_present text_kind.BadExpression = tt
kind_present text_kind.BadMomentum = tt
kind_present text_kind.UnknownName = tt
kind_present text_kind.NumberTooWide = tt
kind_present text_kind.OutOfRange = tt
kind_present text_kind.TooDeep = tt

fault_present : (file : File) (line : ℕ) (Is : ℕ → TextKind → Type 0) (fault : InputFault) → IsFaultOf file line Is fault → IsNotMissing fault.kind
fault_present file line Is fault h = subst (λ (f : InputFault). IsNotMissing f.kind) (sym h.told) (kind_present h.kind)

pub momentum_present : (file : File) (node : Tree) (names : List Bytes) → NeverSaysMissing (ReadsMomentum file node names)
momentum_present file node names =
    then_present (Is (scalar file node)) (MomentumText file (line_of node) names) (is_present _ (scalar_present file node)) (λ text fault h. fault_present _ _ _ fault h)

pub value_present : (file : File) (node : Tree) (names : List Bytes) → NeverSaysMissing (ReadsValue file node names)
value_present file node names =
    then_present (Is (scalar file node)) (ValueText file (line_of node) names) (is_present _ (scalar_present file node)) (λ text fault h. fault_present _ _ _ fault h)
