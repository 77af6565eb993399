-- Files that are loaded one behind the other.
use Rattle.std.proofs.Common.{◌≡◌, inl, inr, ℕ, ◌+◌, ◌<◌, List, [], ◌∷◌, ◌++◌, length, length-append, take, drop, get_or, append_assoc, Option, Result, Ok, Err, OnOk, refl, sym, ap, subst, ◌∙◌, arith}
use Rattle.std.specs.Result.{IsErrAnd}
use Rattle.std.proofs.Math.Seq.{take-add, take-append-add, take-length}
use Rattle.std.proofs.lemmas.List.{append-nil, at_drop_more, take-append-le}
use Rattle.yaml_text.specs.Lines.{Bytes}
use Rattle.kira_outside.specs.Held.{Held}
use Rattle.job_schema.specs.Overridden.{Override}
use Rattle.job_outline.specs.Outlines.{Outline}
use Rattle.kira_app.specs.declared.job_files.Trees.{Trees}
use Rattle.kira_app.specs.declared.refusal.Refusal.{Refusal}
use Rattle.kira_app.specs.Told.{IfTold}
use Rattle.kira_app.specs.Sources.{Outlines}
use Rattle.kira_app.specs.Loads.{three_files, names_of, files_of, Loads, LoadsSome, LoadsFor, AreLists, HasLoadedAll, HasLoadedSome, HasLoaded}
use Rattle.kira_app.proofs.Told.{weaker}

abbrev Said : Type 1
Said = List Bytes → Type 0

pub none_loaded : (before : Said) (files : List Bytes) → Loads before before (take 0 files)
none_loaded before files names h = subst before (sym (append-nil names)) h

pub loads_both : (before now after : Said) (first second : List Bytes) → Loads before now first → Loads now after second → Loads before after (first ++ second)
loads_both before now after first second l k names h = subst after (append_assoc names first second) (k (names ++ first) (l names h))

pub loads_all : (before after : Said) (files : List Bytes) → Loads before after files → LoadsSome before after files
loads_all before after files l = record { count = length files; within = omega (arith); loads = subst (λ (xs : List Bytes). Loads before after xs) (sym (take-length files)) l }

pub some_first : (before after : Said) (first second : List Bytes) → LoadsSome before after first → LoadsSome before after (first ++ second)
some_first before after first second s =
    let within = s.within in
    record {
      count = s.count;
      within = omega (arith, within, length-append first second);
      loads = subst (λ (xs : List Bytes). Loads before after xs) (sym (take-append-le s.count first second s.within)) s.loads;
    }

pub some_second : (before now after : Said) (first second : List Bytes) → Loads before now first → LoadsSome now after second → LoadsSome before after (first ++ second)
some_second before now after first second l s =
    let within = s.within in
    record {
      count = length first + s.count;
      within = omega (arith, within, length-append first second);
      loads = subst (λ (xs : List Bytes). Loads before after xs) (sym (take-append-add first second s.count)) (loads_both before now after first (take s.count second) l s.loads);
    }

-- the next of some files
pub loads_next : (before now after : Said) (files : List Bytes) (place : ℕ) (name : Bytes) → place < length files → name ≡ get_or files place [] →
    Loads before now (take place files) → Loads now after (name ∷ []) → Loads before after (take (place + 1) files)
loads_next before now after files place name inside is l k =
    let one : take 1 (drop place files) ≡ name ∷ [] = at_drop_more (λ (xs : List Bytes). take 1 xs) files place [] inside ∙ ap (λ (x : Bytes). x ∷ []) (sym is) in
    subst (λ (xs : List Bytes). Loads before after xs) (ap (λ (xs : List Bytes). take place files ++ xs) (sym one) ∙ sym (take-add place 1 files))
    (loads_both before now after (take place files) (name ∷ []) l k)

pub some_next : (before now after : Said) (files : List Bytes) (place : ℕ) (name : Bytes) → place < length files → name ≡ get_or files place [] →
    Loads before now (take place files) → Loads now after (name ∷ []) → LoadsSome before after files
some_next before now after files place name inside is l k =
    record { count = place + 1; within = omega (arith, inside); loads = loads_next before now after files place name inside is l k }

-- ---- answers

pub loads_for : {A E : Type 0} (before after : Said) (files : List Bytes) (r : Result A E) → Loads before after files → LoadsFor before after files r
loads_for before after files (Ok a) l = l
loads_for before after files (Err e) l = loads_all before after files l

pub err_loads : {A E : Type 0} (before after : Said) (files : List Bytes) (r : Result A E) (e : E) → IsErrAnd r (λ x. x ≡ e) → LoadsSome before after files → LoadsFor before after files r
err_loads before after files (Ok a) e is s = absurd is
err_loads before after files (Err x) e is s = s

pub then_loads : {A E : Type 0} (before now after : Said) (first second : List Bytes) (r : Result A E) → Loads before now first → LoadsFor now after second r → LoadsFor before after (first ++ second) r
then_loads before now after first second (Ok a) l k = loads_both before now after first second l k
then_loads before now after first second (Err e) l k = some_second before now after first second l k

-- ---- the files of a job

module _ (overrides : List Override) (job : Bytes) (held : Option Held) (before now after : Said) where
  lists_are : (trees : Trees) (outline : Outline) → IfTold held (λ files. Outlines overrides job files (Ok (trees, outline))) → IfTold held (AreLists overrides job outline.select.files)
  lists_are trees outline told = weaker held _ _ (λ files is. record { trees = trees; outline = outline; outlined = is; files = refl }) told

  -- the trees have an outline, and then come its list files
  pub lists_loaded : {A : Type 0} (trees : Trees) (outline : Outline) (r : Result A Refusal) → IfTold held (λ files. Outlines overrides job files (Ok (trees, outline))) →
      Loads before now (three_files job) → LoadsFor now after (names_of outline.select.files) r → HasLoaded overrides job held before after r
  lists_loaded trees outline (Ok a) told l k =
      record { lists = outline.select.files; are = lists_are trees outline told; loads = loads_both before now after (three_files job) (names_of outline.select.files) l k }
  lists_loaded trees outline (Err e) told l k =
      record { lists = outline.select.files; are = inr (lists_are trees outline told); loads = some_second before now after (three_files job) (names_of outline.select.files) l k }

pub trees_loaded : (overrides : List Override) (job : Bytes) (held : Option Held) (before after : Said) → LoadsSome before after (three_files job) → HasLoadedSome overrides job held before after
trees_loaded overrides job held before after s = record { lists = []; are = inl refl; loads = s }

pub nothing_loaded : (overrides : List Override) (job : Bytes) (held : Option Held) (before : Said) → HasLoadedSome overrides job held before before
nothing_loaded overrides job held before =
    record { lists = []; are = inl refl; loads = record { count = 0; within = omega (arith); loads = none_loaded before (files_of job []) } }

pub all_then_some : (overrides : List Override) (job : Bytes) (held : Option Held) (before after : Said) → HasLoadedAll overrides job held before after → HasLoadedSome overrides job held before after
all_then_some overrides job held before after all = record { lists = all.lists; are = inr all.are; loads = loads_all before after (files_of job all.lists) all.loads }

-- the same for equal words and names
pub loaded_as : {A : Type 0} (given overrides : List Override) (name job : Bytes) (held : Option Held) (before after : Said) (r : Result A Refusal) → given ≡ overrides → name ≡ job →
    HasLoaded given name held before after r → HasLoaded overrides job held before after r
loaded_as given overrides name job held before after r is is_name h =
    subst (λ (o : List Override). HasLoaded o job held before after r) is (subst (λ (n : Bytes). HasLoaded given n held before after r) is_name h)

pub on_ok : {A E : Type 0} (r : Result A E) (P : Type 0) → P → OnOk r P
on_ok (Ok a) P p = p
on_ok (Err e) P p = tt

pub not_ok : {A E : Type 0} (r : Result A E) (e : E) (P : Type 0) → IsErrAnd r (λ x. x ≡ e) → OnOk r P
not_ok (Ok a) e P is = absurd is
not_ok (Err x) e P is = tt
