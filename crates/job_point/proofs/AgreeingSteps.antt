-- Steps whose answers are the same, but where one names a divisor of the modulus.
use Rattle.std.proofs.Common.{◌≡◌, ◌⊎◌, inl, inr, ℕ, List, [], ◌∷◌, ◌++◌, Ok, Err, refl, sym, ap, ◌∙◌, subst}
use Rattle.std.specs.Result.{is_ok}
use Rattle.std.proofs.lemmas.Bool.{true≢false}
use Rattle.matrix_elimination.specs.Fault.{IsProperDivisor}
use Rattle.job_point.specs.declared.faults.PlanError.{PlanError}
use Rattle.job_point.specs.declared.faults.PlanError.TheVariants.{Input, Singular, RulesClash, Composite, TooMany, OutOfMemory}
use Rattle.job_point.specs.declared.faults.Singular.TheVariants.{ZeroDivisor, RulesOpen, NotBasis}
use Rattle.job_point.specs.Steps.{Answer, Step, Is, After, Then, Each}
use Rattle.job_point.specs.Agreement.{IsSameFault, IsSameAnswer, NamesDivisor, Agrees, NamesDivisorsAlone}

-- ---- one answer

same_fault : (e : PlanError) → IsSameFault e e
same_fault (Singular (RulesOpen v)) = (v, refl)
same_fault (Singular (NotBasis family v)) = (v, refl)
same_fault (Singular (ZeroDivisor file line at)) = refl
same_fault (RulesClash m r) = (m, r, refl)
same_fault (Input f) = refl
same_fault (Composite f) = refl
same_fault (TooMany what count) = refl
same_fault OutOfMemory = refl

pub same_answer : {A : Type 0} (r q : Answer A) → r ≡ q → IsSameAnswer r q
same_answer (Ok a) q e = sym e
same_answer (Err x) q e = (x, sym e, same_fault x)

names_as : (A B : Type 0) (p : ℕ) (e : PlanError) → NamesDivisor {A = A} p (Err e) → NamesDivisor {A = B} p (Err e)
names_as A B p (Composite f) h = h
names_as A B p (Singular cause) h = absurd h
names_as A B p (RulesClash m r) h = absurd h
names_as A B p (Input f) h = absurd h
names_as A B p (TooMany what count) h = absurd h
names_as A B p OutOfMemory h = absurd h

-- ---- one step and what follows it

names_after : {A B : Type 0} (p : ℕ) (next : A → Step B) (x : Answer A) (r : Answer B) → NamesDivisor p x → After x next r → NamesDivisor p r
names_after p next (Ok a) r d m = absurd d
names_after {A} {B} p next (Err e) r d m = subst (λ (o : Answer B). NamesDivisor p o) (sym m) (names_as A B p e d)

pub is_agrees : {A : Type 0} (p : ℕ) (answer : Answer A) → Agrees p (Is answer)
is_agrees p answer r q h k = inl (same_answer r q (sym h ∙ k))

after_agrees : {A B : Type 0} (p : ℕ) (first : Step A) (next : A → Step B) → ((a : A) → first (Ok a) → Agrees p (next a)) → (x y : Answer A) (r q : Answer B) → first x →
    IsSameAnswer x y ⊎ (NamesDivisor p x ⊎ NamesDivisor p y) → After x next r → After y next q → IsSameAnswer r q ⊎ (NamesDivisor p r ⊎ NamesDivisor p q)
after_agrees {A} {B} p first next same (Ok a) y r q is (inl e) m n = same a is r q m (subst (λ (o : Answer A). After o next q) e n)
after_agrees {A} {B} p first next same (Err x) y r q is (inl e) m n =
    let named : q ≡ Err e.0 = subst (λ (o : Answer A). After o next q) e.1 n in
    inl (subst (λ (o : Answer B). IsSameAnswer o q) (sym m) (e.0, named, e.2))
after_agrees p first next same x y r q is (inr (inl d)) m n = inr (inl (names_after p next x r d m))
after_agrees p first next same x y r q is (inr (inr d)) m n = inr (inr (names_after p next y q d n))

-- where what follows a value may need that it is one
pub then_agrees_where : {A B : Type 0} (p : ℕ) (first : Step A) (next : A → Step B) → Agrees p first → ((a : A) → first (Ok a) → Agrees p (next a)) → Agrees p (Then first next)
then_agrees_where p first next one same r q h k = after_agrees p first next same h.answer k.answer r q h.is (one h.answer k.answer h.is k.is) h.after k.after

pub then_agrees : {A B : Type 0} (p : ℕ) (first : Step A) (next : A → Step B) → Agrees p first → ((a : A) → Agrees p (next a)) → Agrees p (Then first next)
then_agrees p first next one same = then_agrees_where p first next one (λ a is. same a)

pub each_agrees : {N A : Type 0} (p : ℕ) (step : List A → N → Step A) → ((found : List A) (item : N) → Agrees p (step found item)) → (found : List A) (items : List N) → Agrees p (Each step found items)
each_agrees p step same found [] r q h k = inl (same_answer r q (h ∙ sym k))
each_agrees p step same found (item ∷ items) r q h k =
    then_agrees p (step found item) (λ a. Each step (found ++ a ∷ []) items) (same found item) (λ a. each_agrees p step same (found ++ a ∷ []) items) r q h k

-- ---- divisors

abbrev error_or : {B : Type 0} → PlanError → Answer B → PlanError
error_or d (Ok b) = d
error_or d (Err e) = e

-- an error is one of the first step where it is one of the next
error_of : {A B : Type 0} {e f : PlanError} → ◌≡◌ {A = Answer B} (Err e) (Err f) → ◌≡◌ {A = Answer A} (Err e) (Err f)
error_of {A} {B} {e} {f} same = ap (λ (x : PlanError). Err x) (ap (error_or e) same)

after_names : {A B : Type 0} (p : ℕ) (first : Step A) (next : A → Step B) → NamesDivisorsAlone p first → ((a : A) → first (Ok a) → NamesDivisorsAlone p (next a)) →
    (x : Answer A) (fault : _) → first x → After x next (Err (Composite fault)) → IsProperDivisor p fault.divisor
after_names p first next one more (Ok a) fault h k = more a h fault k
after_names {A} p first next one more (Err e) fault h k = one fault (subst (λ (o : Answer A). first o) (sym (error_of k)) h)

pub then_names : {A B : Type 0} (p : ℕ) (first : Step A) (next : A → Step B) → NamesDivisorsAlone p first → ((a : A) → first (Ok a) → NamesDivisorsAlone p (next a)) → NamesDivisorsAlone p (Then first next)
then_names p first next one more fault h = after_names p first next one more h.answer fault h.is h.after

pub is_names : {A : Type 0} (p : ℕ) (a : A) → NamesDivisorsAlone p (Is (Ok a))
is_names p a fault h = absurd (true≢false (ap is_ok h))

pub each_names : {N A : Type 0} (p : ℕ) (step : List A → N → Step A) → ((found : List A) (item : N) → NamesDivisorsAlone p (step found item)) → (found : List A) (items : List N) → NamesDivisorsAlone p (Each step found items)
each_names p step one found [] fault h = absurd (true≢false (sym (ap is_ok h)))
each_names p step one found (item ∷ items) fault h =
    then_names p (step found item) (λ a. Each step (found ++ a ∷ []) items) (one found item) (λ a is. each_names p step one (found ++ a ∷ []) items) fault h
