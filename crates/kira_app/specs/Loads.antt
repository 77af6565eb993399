-- Which files a call loads, and in which order. The project's own.
use Rattle.std.specs.Prelude.{◌≡◌, ◌⊎◌, ℕ, ◌≤◌, List, [], ◌∷◌, ◌++◌, map, length, take, codes, Option, Result, Ok, Err}
use Rattle.yaml_text.specs.Lines.{Bytes}
use Rattle.kira_outside.specs.Held.{Held}
use Rattle.job_schema.specs.declared.selections.ListFile.{ListFile}
use Rattle.job_schema.specs.Overridden.{Override}
use Rattle.job_outline.specs.Outlines.{Outline}
use Rattle.kira_app.specs.declared.job_files.Trees.{Trees}
use Rattle.kira_app.specs.declared.refusal.Refusal.{Refusal}
use Rattle.kira_app.specs.Told.{IfTold}
use Rattle.kira_app.specs.Words.{job_file, overrides_of}
use Rattle.kira_app.specs.Sources.{Outlines}

-- the job file, that of the families and that of the kinematics
abbrev pub three_files : Bytes → List Bytes
three_files job = job ∷ codes "config/integralfamilies.yaml" ∷ codes "config/kinematics.yaml" ∷ []

-- the list files in the order of the job
abbrev pub names_of : List ListFile → List Bytes
names_of lists = map (λ list. list.name) lists

-- all files of a job, each once, in the order in which they are loaded
abbrev pub files_of : Bytes → List ListFile → List Bytes
files_of job lists = three_files job ++ names_of lists

-- Behind the loads made before, just these files were loaded. What the loads can be, the object says at both moments.
abbrev pub Loads : (List Bytes → Type 0) → (List Bytes → Type 0) → List Bytes → Type 0
Loads before after files = (names : List Bytes) → before names → after (names ++ files)

-- the first of these files were loaded, and nothing else
pub record LoadsSome (before after : List Bytes → Type 0) (files : List Bytes) : Type 0 where
  pub count : ℕ
  pub within : count ≤ length files
  pub loads : Loads before after (take count files)

-- all of them at an answer, the first of them at a refusal
abbrev pub LoadsFor : {A E : Type 0} → (List Bytes → Type 0) → (List Bytes → Type 0) → List Bytes → Result A E → Type 0
LoadsFor before after files (Ok a) = Loads before after files
LoadsFor before after files (Err e) = LoadsSome before after files

-- ---- the files of a job

-- these are the list files of the job with these words
pub record AreLists (overrides : List Override) (job : Bytes) (lists : List ListFile) (held : Held) : Type 0 where
  pub trees : Trees
  pub outline : Outline
  pub outlined : Outlines overrides job held (Ok (trees, outline))
  pub files : outline.select.files ≡ lists

-- all files of the job were loaded
pub record HasLoadedAll (overrides : List Override) (job : Bytes) (held : Option Held) (before after : List Bytes → Type 0) : Type 0 where
  pub lists : List ListFile
  pub are : IfTold held (AreLists overrides job lists)
  pub loads : Loads before after (files_of job lists)

-- The first of its files were loaded. No list file was, where there is no outline to name one.
pub record HasLoadedSome (overrides : List Override) (job : Bytes) (held : Option Held) (before after : List Bytes → Type 0) : Type 0 where
  pub lists : List ListFile
  pub are : (lists ≡ []) ⊎ IfTold held (AreLists overrides job lists)
  pub loads : LoadsSome before after (files_of job lists)

-- what a call that reads the files of a job has loaded
abbrev pub HasLoaded : {A : Type 0} → List Override → Bytes → Option Held → (List Bytes → Type 0) → (List Bytes → Type 0) → Result A Refusal → Type 0
HasLoaded overrides job held before after (Ok a) = HasLoadedAll overrides job held before after
HasLoaded overrides job held before after (Err e) = HasLoadedSome overrides job held before after

-- the same for the words of a call
abbrev pub AllLoaded : List Bytes → Option Held → (List Bytes → Type 0) → (List Bytes → Type 0) → Type 0
AllLoaded words held before after = HasLoadedAll (overrides_of words) (job_file words) held before after

abbrev pub SomeLoaded : List Bytes → Option Held → (List Bytes → Type 0) → (List Bytes → Type 0) → Type 0
SomeLoaded words held before after = HasLoadedSome (overrides_of words) (job_file words) held before after
