-- One line more, at the definition of all lines.
use Rattle.std.proofs.Common.{◌≡◌, ℕ, ◌+◌, ◌<◌, ◌==◌, true, false, List, [], ◌∷◌, ◌++◌, length, Result, Ok, Err, refl, ap, sym, ◌∙◌, subst, arith}
use Rattle.std.specs.Result.{IsErrAnd}
use Rattle.std.proofs.lemmas.Bool.Decides.{nat_tests}
use Rattle.yaml_text.specs.Lines.{Bytes, is_empty, skip, cut, bare}
use Rattle.input_schema.specs.declared.faults.File.{File}
use Rattle.input_schema.specs.declared.faults.SchemaError.{SchemaError}
use Rattle.input_schema.specs.declared.faults.SchemaError.TheVariants.{Fault, OutOfMemory}
use Rattle.input_schema.specs.Readings.{Outcome, Reading, Is, Refuses, Answers, each}
use Rattle.list_schema.specs.Lists.{Line, on_line, lines_from, list_file}

-- what `?` answers for an error of a part
pub refused : {A : Type 0} (reading : Reading A) (r : Result A SchemaError) (e : SchemaError) → IsErrAnd r (λ x. x ≡ e) → Refuses reading e → Answers reading r
refused reading (Ok a) e h k = absurd h
refused reading (Err x) e h k = subst (λ (y : SchemaError). Refuses reading y) (sym h) k

-- what the test of a length says
pub is_zero : (n : ℕ) → true ≡ (n == 0) → n ≡ 0
is_zero n h = let test : (n == 0) ≡ true = sym h in grind (arith, nat_tests)

pub is_more : (n : ℕ) → false ≡ (n == 0) → 0 < n
is_more n h = let test : (n == 0) ≡ false = sym h in grind (arith, nat_tests)

nothing : (bs : Bytes) → length bs ≡ 0 → is_empty bs ≡ true
nothing [] h = refl
nothing (b ∷ bs) h = absurd (omega arith)

something : (bs : Bytes) → 0 < length bs → is_empty bs ≡ false
something [] h = absurd (omega arith)
something (b ∷ bs) h = refl

pub list_begins : (file : File) (family : ℕ) (name : Bytes) (width : ℕ) (text : Bytes) →
    list_file file family name width text ≡ each (on_line file family name width) [] (lines_from 1 (cut text))
unfolding list_file
list_begins file family name width text = refl

lines_without : (number : ℕ) (raw : Bytes) (raws : List Bytes) → is_empty (bare raw) ≡ true → lines_from number (raw ∷ raws) ≡ lines_from (number + 1) raws
unfolding lines_from
lines_without number raw raws h = rw h refl

lines_with : (number : ℕ) (raw : Bytes) (raws : List Bytes) → is_empty (bare raw) ≡ false
    → lines_from number (raw ∷ raws) ≡ record { number = number; text = skip (bare raw) } ∷ lines_from (number + 1) raws
unfolding lines_from
lines_with number raw raws h = rw h refl

-- a line without bytes is left out
pub line_left_out : {A : Type 0} {all : Outcome (List A)} (read : Line → Outcome A) (number : ℕ) (found : List A) (rest raw behind kept : Bytes) →
    cut rest ≡ raw ∷ cut behind → kept ≡ bare raw → length kept ≡ 0 → all ≡ each read found (lines_from number (cut rest))
    → all ≡ each read found (lines_from (number + 1) (cut behind))
line_left_out read number found rest raw behind kept first is none so_far =
    let empty : is_empty (bare raw) ≡ true = sym (ap is_empty is) ∙ nothing kept none in
    so_far ∙ ap (λ raws. each read found (lines_from number raws)) first ∙ ap (each read found) (lines_without number raw (cut behind) empty)

kept_lines : (number : ℕ) (rest raw behind kept text : Bytes) → cut rest ≡ raw ∷ cut behind → kept ≡ bare raw → text ≡ skip kept → 0 < length kept
    → lines_from number (cut rest) ≡ record { number = number; text = text } ∷ lines_from (number + 1) (cut behind)
kept_lines number rest raw behind kept text first is indented some =
    let full : is_empty (bare raw) ≡ false = sym (ap is_empty is) ∙ something kept some in
    let same : text ≡ skip (bare raw) = indented ∙ ap skip is in
    ap (lines_from number) first ∙ lines_with number raw (cut behind) full
    ∙ ap (λ (t : Bytes). record { number = number; text = t } ∷ lines_from (number + 1) (cut behind)) (sym same)

each_more : {A : Type 0} (read : Line → Outcome A) (found : List A) (line : Line) (lines : List Line) (a : A) → read line ≡ Ok a
    → each read found (line ∷ lines) ≡ each read (found ++ a ∷ []) lines
each_more read found line lines a fine = rw fine refl

each_refused : {A : Type 0} (read : Line → Outcome A) (found : List A) (line : Line) (lines : List Line) (e : SchemaError) → Refuses (Is (read line)) e
    → Refuses (Is (each read found (line ∷ lines))) e
each_refused read found line lines (Fault f) wrong = rw wrong refl
each_refused read found line lines OutOfMemory wrong = tt

-- a line with an integral
pub line_read : {A : Type 0} {all : Outcome (List A)} (read : Line → Outcome A) (number : ℕ) (found more : List A) (rest raw behind kept text : Bytes) (a : A) →
    cut rest ≡ raw ∷ cut behind → kept ≡ bare raw → text ≡ skip kept → 0 < length kept → all ≡ each read found (lines_from number (cut rest))
    → read (record { number = number; text = text }) ≡ Ok a → more ≡ found ++ a ∷ [] → all ≡ each read more (lines_from (number + 1) (cut behind))
line_read read number found more rest raw behind kept text a first is indented some so_far fine added =
    so_far ∙ ap (each read found) (kept_lines number rest raw behind kept text first is indented some)
    ∙ each_more read found (record { number = number; text = text }) (lines_from (number + 1) (cut behind)) a fine
    ∙ ap (λ xs. each read xs (lines_from (number + 1) (cut behind))) (sym added)

-- a line at fault
pub line_refused : {A : Type 0} {all : Outcome (List A)} (read : Line → Outcome A) (number : ℕ) (found : List A) (rest raw behind kept text : Bytes) (e : SchemaError) →
    cut rest ≡ raw ∷ cut behind → kept ≡ bare raw → text ≡ skip kept → 0 < length kept → all ≡ each read found (lines_from number (cut rest))
    → Refuses (Is (read (record { number = number; text = text }))) e → Refuses (Is all) e
line_refused {A} read number found rest raw behind kept text e first is indented some so_far wrong =
    let whole = so_far ∙ ap (each read found) (kept_lines number rest raw behind kept text first is indented some) in
    subst (λ (o : Outcome (List A)). Refuses (Is o) e) (sym whole)
    (each_refused read found (record { number = number; text = text }) (lines_from (number + 1) (cut behind)) e wrong)

pub lines_end : {A : Type 0} {all : Outcome (List A)} (read : Line → Outcome A) (number : ℕ) (found : List A) (rest : Bytes) → length rest ≡ 0
    → all ≡ each read found (lines_from number (cut rest)) → all ≡ Ok found
unfolding lines_from cut
lines_end read number found [] none so_far = so_far
lines_end read number found (b ∷ rest) none so_far = absurd (omega arith)
