-- List files that are loaded one after another.
use Rattle.std.proofs.Common.{◌≡◌, ℕ, ◌+◌, ◌<◌, ◌≤◌, List, [], ◌∷◌, ◌++◌, map, drop, length, length-append, get_or, Option, Result, Ok, Err, IfErr, refl, sym, ◌∙◌, subst}
use Rattle.std.specs.Prelude.{slice_index_or}
use Rattle.std.specs.Result.{IsErrAnd}
use Rattle.std.specs.declared.vec.Vec.{Vec}
use Rattle.std.proofs.lemmas.List.{at_drop_more, at_drop_all, get_or-map}
use Rattle.kira_outside.specs.Faults.{Rose}
use Rattle.yaml_text.specs.Lines.{Bytes}
use Rattle.kira_outside.specs.Held.{Held}
use Rattle.job_schema.specs.declared.selections.ListFile.{ListFile}
use Rattle.kira_app.specs.declared.refusal.Refusal.{Refusal}
use Rattle.kira_app.specs.Steps as Steps
use Rattle.job_point.specs.Steps.{Is, Each}
use Rattle.kira_app.specs.Steps.{Answer, texts_of}
use Rattle.kira_app.specs.Told.{IfTold, RefusesTold, Tells}
use Rattle.kira_app.specs.Sources.{list_of, ListsOf}
use Rattle.kira_app.proofs.Told.{both, by_status, still_from, then_is, then_refused}

abbrev Step : Held → List Bytes → ListFile → Steps.Step Bytes
Step held found list = Is (list_of (length found) list.name held)

-- Whatever the files from the next on are answered as, behind what was found, all files are answered as that.
pub record HasListed (files : List ListFile) (found : List Bytes) (held : Held) : Type 0 where
  pub whole : (r : Answer (List Bytes)) → Each (Step held) found (drop (length found) files) r → ListsOf files held r

pub listed_none : (files : List ListFile) (held : Held) → HasListed files [] held
listed_none files held = record { whole = λ r h. h }

-- a list file without a name
abbrev none : ListFile
none = record { family = 0; name = [] }

-- the name of the file at a place
abbrev pub list_at : List ListFile → ℕ → Bytes
list_at files number = slice_index_or (map (λ list. list.name) files) number []

named : (files : List ListFile) (number : ℕ) → number < length files → list_at files number ≡ (get_or files number none).name
named files number inside = get_or-map (λ (list : ListFile). list.name) files number none [] inside

at_place : (files : List ListFile) (place : ℕ) (d : ListFile) → place < length files → drop place files ≡ get_or files place d ∷ drop (place + 1) files
at_place files place d h = at_drop_more (λ xs. xs) files place d h

pub listed_one : (files : List ListFile) (found : List Bytes) (bytes : Bytes) (held : Held) → length found < length files → HasListed files found held →
    list_of (length found) (list_at files (length found)) held ≡ Ok bytes → HasListed files (found ++ bytes ∷ []) held
listed_one files found bytes held inside h is =
    let size : length (found ++ bytes ∷ []) ≡ length found + 1 = length-append found (bytes ∷ []) in
    record {
      whole = λ r rest. h.whole r (subst (λ (xs : List ListFile). Each (Step held) found xs r) (sym (at_place files (length found) none inside))
          (then_is (Step held found (get_or files (length found) none)) (λ a. Each (Step held) (found ++ a ∷ []) (drop (length found + 1) files)) bytes r
          (subst (λ (name : Bytes). list_of (length found) name held ≡ Ok bytes) (named files (length found) inside) is)
          (subst (λ n. Each (Step held) (found ++ bytes ∷ []) (drop n files) r) size rest)));
    }

pub listed_all : (files : List ListFile) (found : List Bytes) (held : Held) → length files ≤ length found → HasListed files found held → ListsOf files held (Ok found)
listed_all files found held all h = h.whole (Ok found) (subst (λ (xs : List ListFile). Each (Step held) found xs (Ok found)) (sym (at_drop_all (λ (xs : List ListFile). xs) files (length found) all)) refl)

pub list_refused : (files : List ListFile) (found : List Bytes) (refusal : Refusal) (held : Held) → length found < length files → HasListed files found held →
    list_of (length found) (list_at files (length found)) held ≡ Err refusal → ListsOf files held (Err refusal)
list_refused files found refusal held inside h is =
    h.whole (Err refusal) (subst (λ (xs : List ListFile). Each (Step held) found xs (Err refusal)) (sym (at_place files (length found) none inside))
    (then_refused (Step held found (get_or files (length found) none)) _ refusal (subst (λ (name : Bytes). list_of (length found) name held ≡ Err refusal) (named files (length found) inside) is)))

-- ---- where the files are told

module _ (held held' : Option Held) (before before' now : ℕ) (files : List ListFile) (found : List Bytes) (number : ℕ) (name : Bytes)
    (same : held' ≡ held) (count : before' ≡ before) (told : IfTold held (HasListed files found)) (size : length found ≡ number) (is_name : name ≡ list_at files number) (inside : number < length files) where
  abbrev List_at : Held → Steps.Step Bytes
  List_at files_held = Is (list_of number name files_held)

  -- the next file has these bytes
  pub goes_on_listed : (bytes : Bytes) → Tells held' before' now List_at (Ok bytes) → IfTold held (HasListed files (found ++ bytes ∷ [])) × (now ≡ before)
  goes_on_listed bytes h = (
    both held (HasListed files found) (λ f. list_of number name f ≡ Ok bytes) (HasListed files (found ++ bytes ∷ []))
        (λ f listed is. listed_one files found bytes f (subst (λ n. n < length files) (sym size) inside) listed
        (subst (λ n. list_of n (list_at files n) f ≡ Ok bytes) (sym size) (subst (λ (x : Bytes). list_of number x f ≡ Ok bytes) is_name is)))
        told (subst (λ (o : Option Held). IfTold o (λ f. list_of number name f ≡ Ok bytes)) same h.0),
    h.1 ∙ count,
  )

  -- the next file is refused
  pub stops_listed : (e : Refusal) → Tells held' before' now List_at (Err e) → RefusesTold held before now (ListsOf files) e
  stops_listed e h =
      by_status e.status _ _ _ _ (λ rose. subst (λ b. Rose b now) count rose)
      (λ k. (
        both held (HasListed files found) (λ f. list_of number name f ≡ Err e) (λ f. ListsOf files f (Err e))
            (λ f listed is. list_refused files found e f (subst (λ n. n < length files) (sym size) inside) listed
            (subst (λ n. list_of n (list_at files n) f ≡ Err e) (sym size) (subst (λ (x : Bytes). list_of number x f ≡ Err e) is_name is)))
            told (subst (λ (o : Option Held). IfTold o (λ f. list_of number name f ≡ Err e)) same k.0),
        still_from held held' before before' now e.status same count k.1,
      )) h

-- what `?` answers for a refusal, where the answer is a vector of texts
pub err_texts : {Y Z : Type 0} (held : Option Held) (before now : ℕ) (whole : Held → Steps.Step (List Bytes)) (r : Result (Vec (Vec ℕ Y) Z) Refusal) (e : Refusal) →
    IsErrAnd r (λ x. x ≡ e) → RefusesTold held before now whole e → Tells held before now whole (texts_of r)
err_texts held before now whole (Ok a) e h k = absurd h
err_texts held before now whole (Err x) e h k = subst (λ (y : Refusal). RefusesTold held before now whole y) (sym h) k

pub err_refusal : {A : Type 0} (r : Result A Refusal) (e : Refusal) (P : Refusal → Type 0) → IsErrAnd r (λ x. x ≡ e) → P e → IfErr r P
err_refusal (Ok a) e P h k = absurd h
err_refusal (Err x) e P h k = subst P (sym h) k
