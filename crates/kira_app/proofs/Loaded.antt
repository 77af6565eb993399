-- What a file that was loaded says.
use Rattle.std.proofs.Common.{◌≡◌, ◌⊎◌, ℕ, ◌<◌, ◌≤◌, nat_lt, true, false, Bool, length, take, min, Option, Some, None, Result, Ok, Err, inl, inr, refl, sym, ap, subst, ◌∙◌, cond, arith}
use Rattle.std.proofs.lemmas.Bool.{ltb-true, ltb-false, lt-ltb, le-ltb}
use Rattle.std.proofs.lemmas.List.{take_all, length-take}
use Rattle.std.specs.Option.{IsSomeAnd}
use Rattle.std.specs.FinMap as map
use Rattle.yaml_text.specs.declared.tree.Tree.{Tree}
use Rattle.yaml_text.specs.Blocks.{reading}
use Rattle.yaml_text.specs.Lines.{Bytes}
use Rattle.kira_outside.specs.Faults.{Rose}
use Rattle.kira_outside.specs.Held.{Held, LoadGives, LacksName}
use Rattle.input_schema.specs.declared.faults.File.{File}
use Rattle.input_schema.specs.declared.faults.InputKind.TheVariants.{Missing, TooLong}
use Rattle.input_schema.specs.Readings as input
use Rattle.kira_app.specs.declared.status.Status.{Status}
use Rattle.kira_app.specs.declared.status.Status.TheVariants as status
use Rattle.kira_app.specs.declared.refusal.Refusal.{Refusal}
use Rattle.job_point.specs.Steps.{Is}
use Rattle.kira_app.specs.Steps.{OfReading, plainly}
use Rattle.kira_app.specs.Told.{IfTold, ByStatus, SaysMissing, IsStill, Answers, RefusesTold, Tells}
use Rattle.kira_app.specs.Sources.{tree_from, tree_in, tree_of_entry, TreeOf, no_list, list_of_entry, list_of}
use Rattle.kira_app.proofs.Told.{weaker, next_answers}

-- One byte more than a file may have tells the tree, or that there are too many.
cut : (file : File) (whole : Bytes) (long : Bool) → nat_lt 16777216 (length whole) ≡ long → tree_in file whole ≡ tree_in file (take 16777217 whole)
cut file whole false short = ap (tree_in file) (sym (take_all 16777217 whole (let most = ltb-false 16777216 (length whole) short in omega (arith, most))))
cut file whole true long =
    let more : 16777216 < length whole = ltb-true 16777216 (length whole) long in
    let size : length (take 16777217 whole) ≡ 16777217 = length-take 16777217 whole ∙ omega (arith, more) in
    let still : nat_lt 16777216 (length (take 16777217 whole)) ≡ true = ap (nat_lt 16777216) size in
    ap (λ b. cond b (input.refuse file 0 TooLong) (tree_from file (reading whole))) long
    ∙ sym (ap (λ b. cond b (input.refuse file 0 TooLong) (tree_from file (reading (take 16777217 whole)))) still)

of_entry : (file : File) (entry : Option Bytes) (bytes : Bytes) → IsSomeAnd entry (λ whole. bytes ≡ take 16777217 whole) → tree_of_entry file entry ≡ tree_in file bytes
of_entry file None bytes h = absurd h
of_entry file (Some whole) bytes h = cut file whole (nat_lt 16777216 (length whole)) refl ∙ ap (tree_in file) (sym h)

pub loaded : (held : Option Held) (before now : ℕ) (file : File) (name bytes : Bytes) (r : Result Tree Status) → LoadGives held name 16777217 bytes → now ≡ before →
    Answers (OfReading (input.Is (tree_in file bytes))) (plainly r) → Tells held before now (TreeOf file name) (plainly r)
loaded held before now file name bytes r given count found =
    next_answers held before now (λ files. IsSomeAnd (map.get files name) (λ whole. bytes ≡ take 16777217 whole)) (OfReading (input.Is (tree_in file bytes))) (TreeOf file name) (plainly r) count
    (λ files o here is. subst (λ (t : input.Outcome Tree). OfReading (input.Is t) o) (sym (of_entry file (map.get files name) bytes here)) is) given found

-- ---- list files

list_short : (number : ℕ) (name : Bytes) (entry : Option Bytes) (bytes : Bytes) → IsSomeAnd entry (λ whole. bytes ≡ take 16777217 whole) → length bytes ≤ 16777216 → list_of_entry number name entry ≡ Ok bytes
list_short number name None bytes h few = absurd h
list_short number name (Some whole) bytes h few =
    let size : length bytes ≡ min 16777217 (length whole) = ap length h ∙ length-take 16777217 whole in
    let all : length whole ≤ 16777216 = omega (arith, size, few) in
    let same : bytes ≡ whole = h ∙ take_all 16777217 whole (omega (arith, all)) in
    ap (λ b. cond b (Err (no_list number name TooLong)) (Ok whole)) (le-ltb 16777216 (length whole) all) ∙ ap (λ (bs : Bytes). Ok bs) (sym same)

list_long : (number : ℕ) (name : Bytes) (entry : Option Bytes) (bytes : Bytes) → IsSomeAnd entry (λ whole. bytes ≡ take 16777217 whole) → 16777216 < length bytes → list_of_entry number name entry ≡ Err (no_list number name TooLong)
list_long number name None bytes h many = absurd h
list_long number name (Some whole) bytes h many =
    let size : length bytes ≡ min 16777217 (length whole) = ap length h ∙ length-take 16777217 whole in
    let more : 16777216 < length whole = omega (arith, size, many) in
    ap (λ b. cond b (Err (no_list number name TooLong)) (Ok whole)) (lt-ltb 16777216 (length whole) more)

pub list_loaded : (held : Option Held) (before now number : ℕ) (name bytes : Bytes) → LoadGives held name 16777217 bytes → now ≡ before → length bytes ≤ 16777216 →
    Tells held before now (λ files. Is (list_of number name files)) (Ok bytes)
list_loaded held before now number name bytes given count few = (
  weaker held (λ files. IsSomeAnd (map.get files name) (λ whole. bytes ≡ take 16777217 whole)) (λ files. list_of number name files ≡ Ok bytes) (λ files here. list_short number name (map.get files name) bytes here few) given,
  count,
)

-- a file that isn't held, where files are told, and otherwise one that was counted
not_held : (held : Option Held) (before now : ℕ) (name : Bytes) (s : Status) (P : Held → Type 0) → SaysMissing s → ((files : Held) → map.get files name ≡ None → P files) →
    LacksName before now held name → IfTold held P × IsStill held before now s
not_held None before now name s P says go rose = (tt, inr (says, (refl, rose)))
not_held (Some files) before now name s P says go (gone, count) = (go files gone, inl count)

pub list_missing : (held : Option Held) (before now number : ℕ) (name : Bytes) (refusal : Refusal) → LacksName before now held name →
    (refusal ≡ no_list number name Missing) ⊎ (refusal.status ≡ status.OutOfMemory) → RefusesTold held before now (λ files. Is (list_of number name files)) refusal
list_missing held before now number name refusal lacks (inl e) =
    subst (λ (r : Refusal). RefusesTold held before now (λ files. Is (list_of number name files)) r) (sym e)
    (not_held held before now name (no_list number name Missing).status (λ files. list_of number name files ≡ Err (no_list number name Missing)) refl (λ files gone. ap (list_of_entry number name) gone) lacks)
list_missing held before now number name refusal lacks (inr e) =
    subst (λ (s : Status). ByStatus s (Rose before now) (IfTold held (λ files. list_of number name files ≡ Err refusal) × IsStill held before now refusal.status)) (sym e) tt

pub list_too_long : (held : Option Held) (before now number : ℕ) (name bytes : Bytes) (refusal : Refusal) → LoadGives held name 16777217 bytes → now ≡ before → 16777216 < length bytes →
    (refusal ≡ no_list number name TooLong) ⊎ (refusal.status ≡ status.OutOfMemory) → RefusesTold held before now (λ files. Is (list_of number name files)) refusal
list_too_long held before now number name bytes refusal given count many (inl e) =
    subst (λ (r : Refusal). RefusesTold held before now (λ files. Is (list_of number name files)) r) (sym e) (
      weaker held (λ files. IsSomeAnd (map.get files name) (λ whole. bytes ≡ take 16777217 whole)) (λ files. list_of number name files ≡ Err (no_list number name TooLong)) (λ files here. list_long number name (map.get files name) bytes here many) given,
      inl count,
    )
list_too_long held before now number name bytes refusal given count many (inr e) =
    subst (λ (s : Status). ByStatus s (Rose before now) (IfTold held (λ files. list_of number name files ≡ Err refusal) × IsStill held before now refusal.status)) (sym e) tt
