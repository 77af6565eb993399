-- Steps in order: what a call answers, from what the calls for its steps answer.
use Rattle.std.proofs.Common.{◌≡◌, ℕ, ◌+◌, ◌<◌, ◌≤◌, List, [], ◌∷◌, ◌++◌, drop, length, get_or, Ok, Err, refl, sym, ap, ◌∙◌, subst}
use Rattle.std.specs.Result.{IsErrAnd}
use Rattle.std.proofs.lemmas.List.{at_drop_more, at_drop_all, get_or_default}
use Rattle.job_point.specs.declared.faults.PlanError.{PlanError}
use Rattle.job_point.specs.declared.faults.PlanError.TheVariants.{Input, Singular, RulesClash, Composite, TooMany, OutOfMemory}
use Rattle.job_point.specs.Steps.{Answer, Step, Is, After, Then, Each, Refuses, Meets, IsSingle}

-- ---- one step

-- a fault of one step as one of another
pub refuses_as : {A B : Type 0} (step : Step A) (other : Step B) (e : PlanError) → (step (Err e) → other (Err e)) → Refuses step e → Refuses other e
refuses_as step other (Input f) go h = go h
refuses_as step other (Singular f) go h = go h
refuses_as step other (RulesClash m r) go h = go h
refuses_as step other (Composite f) go h = go h
refuses_as step other (TooMany what count) go h = go h
refuses_as step other OutOfMemory go h = tt

-- what `?` answers for a fault of a step
pub refused : {A : Type 0} (step : Step A) (r : Answer A) (e : PlanError) → IsErrAnd r (λ x. x ≡ e) → Refuses step e → Meets step r
refused step (Ok a) e h k = absurd h
refused step (Err x) e h k = subst (λ (y : PlanError). Refuses step y) (sym h) k

-- ---- one step and what follows it

pub then_is : {A B : Type 0} (first : Step A) (next : A → Step B) (a : A) (r : Answer B) → first (Ok a) → next a r → Then first next r
then_is first next a r h k = record { answer = Ok a; is = h; after = k }

pub then_refuses : {A B : Type 0} (first : Step A) (next : A → Step B) (e : PlanError) → Refuses first e → Refuses (Then first next) e
then_refuses first next e h = refuses_as first (Then first next) e (λ k. record { answer = Err e; is = k; after = refl }) h

pub then_refuses_later : {A B : Type 0} (first : Step A) (next : A → Step B) (a : A) (e : PlanError) → first (Ok a) → Refuses (next a) e → Refuses (Then first next) e
then_refuses_later first next a e h k = refuses_as (next a) (Then first next) e (λ m. then_is first next a (Err e) h m) k

pub then_meets : {A B : Type 0} (first : Step A) (next : A → Step B) (a : A) (r : Answer B) → first (Ok a) → Meets (next a) r → Meets (Then first next) r
then_meets first next a (Ok b) h k = then_is first next a (Ok b) h k
then_meets first next a (Err e) h k = then_refuses_later first next a e h k

-- ---- the items of a list in a loop

-- Whatever the items from this place on are answered as, behind what was found, all items are answered as
-- that, behind what was there at the start.
pub record GoesOn {N A : Type 0} (step : List A → N → Step A) (start : List A) (items : List N) (found : List A) (place : ℕ) : Type 0 where
  pub whole : (r : Answer (List A)) → Each step found (drop place items) r → Each step start items r

at_place : {N : Type 0} (items : List N) (place : ℕ) (item : N) → place < length items → item ≡ get_or items place item → drop place items ≡ item ∷ drop (place + 1) items
at_place items place item h e = at_drop_more (λ xs. xs) items place item h ∙ ap (λ n. n ∷ drop (place + 1) items) (sym e)

pub gone_on : {N A : Type 0} (step : List A → N → Step A) (start : List A) (items : List N) (found : List A) (place : ℕ) (item : N) (a : A) →
    GoesOn step start items found place → place < length items → item ≡ get_or items place item → step found item (Ok a) → GoesOn step start items (found ++ a ∷ []) (place + 1)
gone_on {N} {A} step start items found place item a g h e k =
    record { whole = λ r rest. g.whole r (subst (λ (xs : List N). Each step found xs r) (sym (at_place items place item h e)) (then_is (step found item) (λ b. Each step (found ++ b ∷ []) (drop (place + 1) items)) a r k rest)) }

pub spoilt : {N A : Type 0} (step : List A → N → Step A) (start : List A) (items : List N) (found : List A) (place : ℕ) (item : N) (e : PlanError) →
    GoesOn step start items found place → place < length items → item ≡ get_or items place item → Refuses (step found item) e → Refuses (Each step start items) e
spoilt {N} {A} step start items found place item e g h same k =
    refuses_as (step found item) (Each step start items) e
    (λ m. g.whole (Err e) (subst (λ (xs : List N). Each step found xs (Err e)) (sym (at_place items place item h same)) (record { answer = Err e; is = m; after = refl }))) k

-- the same, where the item is given as the one at its place
pub gone_on_at : {N A : Type 0} (step : List A → N → Step A) (start : List A) (items : List N) (found : List A) (place : ℕ) (d : N) (a : A) →
    GoesOn step start items found place → place < length items → step found (get_or items place d) (Ok a) → GoesOn step start items (found ++ a ∷ []) (place + 1)
gone_on_at step start items found place d a g h k =
    gone_on step start items found place (get_or items place d) a g h (get_or_default items place d (get_or items place d) h) k

pub spoilt_at : {N A : Type 0} (step : List A → N → Step A) (start : List A) (items : List N) (found : List A) (place : ℕ) (d : N) (e : PlanError) →
    GoesOn step start items found place → place < length items → Refuses (step found (get_or items place d)) e → Refuses (Each step start items) e
spoilt_at step start items found place d e g h k =
    spoilt step start items found place (get_or items place d) e g h (get_or_default items place d (get_or items place d) h) k

pub all_found : {N A : Type 0} (step : List A → N → Step A) (start : List A) (items : List N) (found : List A) (place : ℕ) →
    GoesOn step start items found place → length items ≤ place → Each step start items (Ok found)
all_found {N} {A} step start items found place g h =
    g.whole (Ok found) (subst (λ (xs : List N). Each step found xs (Ok found)) (sym (at_drop_all (λ (xs : List N). xs) items place h)) refl)

-- ---- steps with one value at most

pub is_single : {A : Type 0} (a : A) → IsSingle (Is (Ok a))
is_single a one other h k = cc

single_after : {A B : Type 0} (first : Step A) (next : A → Step B) → ((a : A) → first (Ok a) → IsSingle (next a)) → (one other : B) (p q : Answer A) → first q →
    ((a b : A) → p ≡ Ok a → q ≡ Ok b → a ≡ b) → After p next (Ok one) → After q next (Ok other) → one ≡ other
single_after first next same one other (Ok a) (Ok b) is e h k = same b is one other (subst (λ (x : _). next x (Ok one)) (e a b refl refl) h) k
single_after first next same one other (Ok a) (Err f) is e h k = absurd (let no : Ok other ≡ Err f = k in cc)
single_after first next same one other (Err f) q is e h k = absurd (let no : Ok one ≡ Err f = h in cc)

-- the same, where what follows a value may need that it is one
pub then_single_where : {A B : Type 0} (first : Step A) (next : A → Step B) → IsSingle first → ((a : A) → first (Ok a) → IsSingle (next a)) → IsSingle (Then first next)
then_single_where {A} {B} first next one same r q h k =
    single_after first next same r q h.answer k.answer k.is
    (λ a b x y. one a b (subst (λ (o : Answer A). first o) x h.is) (subst (λ (o : Answer A). first o) y k.is)) h.after k.after

pub then_single : {A B : Type 0} (first : Step A) (next : A → Step B) → IsSingle first → ((a : A) → IsSingle (next a)) → IsSingle (Then first next)
then_single first next one same = then_single_where first next one (λ a is. same a)

pub each_single : {N A : Type 0} (step : List A → N → Step A) → ((found : List A) (item : N) → IsSingle (step found item)) → (found : List A) (items : List N) → IsSingle (Each step found items)
each_single step same found [] r q h k = cc
each_single step same found (item ∷ items) r q h k =
    then_single (step found item) (λ a. Each step (found ++ a ∷ []) items) (same found item) (λ a. each_single step same (found ++ a ∷ []) items) r q h k
