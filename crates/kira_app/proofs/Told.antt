-- Steps that read files, one after another.
use Rattle.std.proofs.Common.{◌≡◌, inl, inr, ℕ, Option, None, Some, Result, Ok, Err, IfErr, refl, sym, subst}
use Rattle.std.specs.Result.{IsErrAnd}
use Rattle.kira_outside.specs.Held.{Held}
use Rattle.kira_app.specs.declared.status.Status.{Status}
use Rattle.kira_app.specs.declared.status.Status.TheVariants as status
use Rattle.kira_app.specs.declared.refusal.Refusal.{Refusal}
use Rattle.job_point.specs.Steps.{Then}
use Rattle.kira_app.specs.Steps.{Answer, Step, plain, plainly}
use Rattle.kira_app.specs.Told.{IfTold, ByStatus, SaysMissing, IsStill, Refuses, Answers, RefusesTold, Tells}

-- what is told of one step is told of another that follows from it
pub weaker : (held : Option Held) (P Q : Held → Type 0) → ((files : Held) → P files → Q files) → IfTold held P → IfTold held Q
weaker None P Q f h = tt
weaker (Some files) P Q f h = f files h

pub always : (held : Option Held) (P : Held → Type 0) → ((files : Held) → P files) → IfTold held P
always None P h = tt
always (Some files) P h = h files

pub both : (held : Option Held) (P Q R : Held → Type 0) → ((files : Held) → P files → Q files → R files) → IfTold held P → IfTold held Q → IfTold held R
both None P Q R f h k = tt
both (Some files) P Q R f h k = f files h k

-- what has to hold of a refusal, from what held of it elsewhere
pub by_status : (s : Status) (failed failed' refused refused' : Type 0) → (failed → failed') → (refused → refused') → ByStatus s failed refused → ByStatus s failed' refused'
by_status status.OutOfMemory failed failed' refused refused' go on h = h
by_status status.ReadFault failed failed' refused refused' go on h = go h
by_status status.Ok failed failed' refused refused' go on h = h
by_status status.WriteFault failed failed' refused refused' go on h = h
by_status (status.Input f) failed failed' refused refused' go on h = on h
by_status (status.Singular c) failed failed' refused refused' go on h = on h
by_status (status.RulesClash m r) failed failed' refused refused' go on h = on h
by_status (status.Composite f) failed failed' refused refused' go on h = on h
by_status (status.TooMany what count) failed failed' refused refused' go on h = on h
by_status status.Usage failed failed' refused refused' go on h = h
by_status status.NotYet failed failed' refused refused' go on h = h

-- no load has failed, from another moment on at which the files stood as before
pub still_from : (held held' : Option Held) (before before' now : ℕ) (s : Status) → held' ≡ held → before' ≡ before → IsStill held' before' now s → IsStill held before now s
still_from held held' before before' now s same count h = subst (λ b. IsStill held b now s) count (subst (λ (o : Option Held). IsStill o before' now s) same h)

-- a status that no missing file has
pub still_count : (held : Option Held) (before now : ℕ) (s : Status) → (SaysMissing s → ⊥) → IsStill held before now s → now ≡ before
still_count held before now s present (inl count) = count
still_count held before now s present (inr missed) = absurd (present missed.0)

-- ---- one step and what follows it

pub then_is : {A B : Type 0} (first : Step A) (next : A → Step B) (a : A) (r : Answer B) → first (Ok a) → next a r → Then first next r
then_is first next a r h k = record { answer = Ok a; is = h; after = k }

pub then_refused : {A B : Type 0} (first : Step A) (next : A → Step B) (e : Refusal) → first (Err e) → Then first next (Err e)
then_refused first next e h = record { answer = Err e; is = h; after = refl }

-- the first step is refused
pub refused_first : {A B : Type 0} (held : Option Held) (before now : ℕ) (first : Held → Step A) (whole : Held → Step B) →
    ((files : Held) (e : Refusal) → first files (Err e) → whole files (Err e)) → (e : Refusal) → RefusesTold held before now first e → RefusesTold held before now whole e
refused_first held before now first whole stays e = by_status e.status _ _ _ _ (λ f. f) (λ h. (weaker held _ _ (λ files h. stays files e h) h.0, h.1))

-- the first step has a value, and the next one that reads files answers this, where the count stood and the files
-- were told as before
pub next_tells : {A : Type 0} (held held' : Option Held) (before before' now : ℕ) (P : Held → Type 0) (next : Held → Step A) (whole : Held → Step A) (r : Answer A) →
    held' ≡ held → before' ≡ before → ((files : Held) (o : Answer A) → P files → next files o → whole files o) → IfTold held P → Tells held' before' now next r → Tells held before now whole r
next_tells {A} held held' before before' now P next whole r same count goes found h =
    at r (subst (λ (b : ℕ). Tells held b now next r) count (subst (λ (o : Option Held). Tells o before' now next r) same h))
  where
    at : (r : Answer A) → Tells held before now next r → Tells held before now whole r
    at (Ok a) h = (both held _ _ _ (λ files p n. goes files (Ok a) p n) found h.0, h.1)
    at (Err e) h = by_status e.status _ _ _ _ (λ f. f) (λ h. (both held _ _ _ (λ files p n. goes files (Err e) p n) found h.0, h.1)) h

-- the same for a next step that reads no files
pub next_answers : {A : Type 0} (held : Option Held) (before now : ℕ) (P : Held → Type 0) (next : Step A) (whole : Held → Step A) (r : Answer A) →
    now ≡ before → ((files : Held) (o : Answer A) → P files → next o → whole files o) → IfTold held P → Answers next r → Tells held before now whole r
next_answers held before now P next whole (Ok a) count goes found h = (weaker held _ _ (λ files p. goes files (Ok a) p h) found, count)
next_answers held before now P next whole (Err e) count goes found h = by_status e.status _ _ _ _ (λ no. absurd no) (λ n. (weaker held _ _ (λ files p. goes files (Err e) p n) found, inl count)) h

-- ---- what `?` answers for an error of a step

pub err_told : {A : Type 0} (held : Option Held) (before now : ℕ) (whole : Held → Step A) (r : Answer A) (e : Refusal) → IsErrAnd r (λ x. x ≡ e) → RefusesTold held before now whole e → Tells held before now whole r
err_told held before now whole (Ok a) e h k = absurd h
err_told held before now whole (Err x) e h k = subst (λ (y : Refusal). RefusesTold held before now whole y) (sym h) k

-- the same where errors are statuses
pub err_plain : {A : Type 0} (held : Option Held) (before now : ℕ) (whole : Held → Step A) (r : Result A Status) (e : Status) →
    IsErrAnd r (λ x. x ≡ e) → RefusesTold held before now whole (plain e) → Tells held before now whole (plainly r)
err_plain held before now whole (Ok a) e h k = absurd h
err_plain held before now whole (Err x) e h k = subst (λ (y : Status). RefusesTold held before now whole (plain y)) (sym h) k

-- ---- what follows a step, for a call that reads files

-- one step was told, and the next one answers this
pub goes_on : {A B : Type 0} (held held' : Option Held) (before before' now : ℕ) (first : Held → Step A) (next : A → Held → Step B) (a : A) (r : Answer B) →
    held' ≡ held → before' ≡ before → IfTold held (λ files. first files (Ok a)) → Tells held' before' now (next a) r → Tells held before now (λ files. Then (first files) (λ x. next x files)) r
goes_on held held' before before' now first next a r same count found h =
    next_tells held held' before before' now (λ files. first files (Ok a)) (next a) (λ files. Then (first files) (λ x. next x files)) r same count
    (λ files o is after. then_is (first files) (λ x. next x files) a o is after) found h

-- one step was refused
pub stops : {A B : Type 0} (held : Option Held) (before now : ℕ) (first : Held → Step A) (next : A → Held → Step B) (e : Refusal) →
    RefusesTold held before now first e → RefusesTold held before now (λ files. Then (first files) (λ x. next x files)) e
stops held before now first next e h = refused_first held before now first (λ files. Then (first files) (λ x. next x files)) (λ files r is. then_refused (first files) (λ x. next x files) r is) e h

-- ---- steps that read no files, behind steps that do

pub refused_then : {A B : Type 0} (first : Step A) (next : A → Step B) (e : Refusal) → Refuses first e → Refuses (Then first next) e
refused_then first next e h = by_status e.status _ _ _ _ (λ no. no) (then_refused first next e) h

pub refused_later : {A B : Type 0} (first : Step A) (next : A → Step B) (a : A) (e : Refusal) → first (Ok a) → Refuses (next a) e → Refuses (Then first next) e
refused_later first next a e is h = by_status e.status _ _ _ _ (λ no. no) (λ k. then_is first next a (Err e) is k) h

pub answers_later : {A B : Type 0} (first : Step A) (next : A → Step B) (a : A) (r : Answer B) → first (Ok a) → Answers (next a) r → Answers (Then first next) r
answers_later first next a (Ok b) is h = then_is first next a (Ok b) is h
answers_later first next a (Err e) is h = refused_later first next a e is h

-- what was told, and then the refusal of a step that reads no files
pub told_later : {A B : Type 0} (held : Option Held) (before now : ℕ) (first : Held → Step A) (next : A → Step B) (a : A) (e : Refusal) →
    now ≡ before → IfTold held (λ files. first files (Ok a)) → Refuses (next a) e → RefusesTold held before now (λ files. Then (first files) next) e
told_later held before now first next a e count found h =
    by_status e.status _ _ _ _ (λ no. absurd no) (λ k. (weaker held _ _ (λ files is. then_is (first files) next a (Err e) is k) found, inl count)) h

-- a status that says that a file is missing is that of a step
pub missing_said : (s : Status) (failed refused : Type 0) → SaysMissing s → ByStatus s failed refused → refused
missing_said (status.Input f) failed refused missing h = h
missing_said status.OutOfMemory failed refused missing h = absurd missing
missing_said status.ReadFault failed refused missing h = absurd missing
missing_said status.Ok failed refused missing h = absurd missing
missing_said status.WriteFault failed refused missing h = absurd missing
missing_said (status.Singular c) failed refused missing h = absurd missing
missing_said (status.RulesClash m r) failed refused missing h = absurd missing
missing_said (status.Composite f) failed refused missing h = absurd missing
missing_said (status.TooMany what count) failed refused missing h = absurd missing
missing_said status.Usage failed refused missing h = absurd missing
missing_said status.NotYet failed refused missing h = absurd missing

-- what holds of the error that `?` hands on
pub of_error : {A : Type 0} (r : Result A Status) (e : Status) (P : Status → Type 0) → IsErrAnd r (λ x. x ≡ e) → P e → IfErr r P
of_error (Ok a) e P h k = absurd h
of_error (Err x) e P h k = subst P (sym h) k
