-- Parts in order: what a call answers, from what the calls for its parts answer.
use Rattle.std.proofs.Common.{◌≡◌, ℕ, ◌+◌, ◌<◌, ◌≤◌, List, [], ◌∷◌, ◌++◌, drop, length, get_or, Option, Some, None, Result, Ok, Err, refl, sym, ap, ◌∙◌, subst}
use Rattle.std.specs.Result.{IsErrAnd}
use Rattle.std.proofs.lemmas.List.{at_drop_more, at_drop_all}
use Rattle.input_schema.specs.declared.faults.SchemaError.{SchemaError}
use Rattle.input_schema.specs.declared.faults.SchemaError.TheVariants.{Fault, OutOfMemory}
use Rattle.input_schema.specs.Readings.{Outcome, Reading, Is, After, Then, IfGiven, Each, Refuses, Answers, IsSingle}

-- what `?` answers for an error of a part
pub refused : {A : Type 0} (reading : Reading A) (r : Result A SchemaError) (e : SchemaError) → IsErrAnd r (λ x. x ≡ e) → Refuses reading e → Answers reading r
refused reading (Ok a) e h k = absurd h
refused reading (Err x) e h k = subst (λ (y : SchemaError). Refuses reading y) (sym h) k

-- ---- one part and what follows it

pub then_is : {A B : Type 0} (first : Reading A) (next : A → Reading B) (a : A) (r : Outcome B) → first (Ok a) → next a r → Then first next r
then_is first next a r h k = record { outcome = Ok a; is = h; after = k }

pub then_refuses : {A B : Type 0} (first : Reading A) (next : A → Reading B) (e : SchemaError) → Refuses first e → Refuses (Then first next) e
then_refuses first next (Fault f) h = record { outcome = Err f; is = h; after = refl }
then_refuses first next OutOfMemory h = tt

pub then_refuses_later : {A B : Type 0} (first : Reading A) (next : A → Reading B) (a : A) (e : SchemaError) → first (Ok a) → Refuses (next a) e → Refuses (Then first next) e
then_refuses_later first next a (Fault f) h k = record { outcome = Ok a; is = h; after = k }
then_refuses_later first next a OutOfMemory h k = tt

pub then_answers : {A B : Type 0} (first : Reading A) (next : A → Reading B) (a : A) (r : Result B SchemaError) → first (Ok a) → Answers (next a) r → Answers (Then first next) r
then_answers first next a (Ok b) h k = then_is first next a (Ok b) h k
then_answers first next a (Err e) h k = then_refuses_later first next a e h k

-- ---- a part that may be missing

pub given : {N A : Type 0} (part : Option N) (missing : A) (read : N → Reading A) (node : N) (r : Result A SchemaError) → Some node ≡ part → Answers (read node) r → Answers (IfGiven part missing read) r
given {N} {A} part missing read node r e k = subst (λ (p : Option N). Answers (IfGiven p missing read) r) e k

pub not_given : {N A : Type 0} (part : Option N) (missing : A) (read : N → Reading A) → None ≡ part → IfGiven part missing read (Ok missing)
not_given {N} {A} part missing read e = subst (λ (p : Option N). IfGiven p missing read (Ok missing)) e refl

-- ---- the nodes of a list in a loop

-- Whatever the nodes from this place on are read as, behind what was found, all nodes are read as that,
-- behind what was there at the start.
pub record GoesOn {N A : Type 0} (read : List A → N → Reading A) (start : List A) (nodes : List N) (found : List A) (place : ℕ) : Type 0 where
  pub whole : (r : Outcome (List A)) → Each read found (drop place nodes) r → Each read start nodes r

pub begun : {N A : Type 0} (read : List A → N → Reading A) (start : List A) (nodes : List N) → GoesOn read start nodes start 0
begun read start nodes = record { whole = λ r h. h }

at_place : {N : Type 0} (nodes : List N) (place : ℕ) (node : N) → place < length nodes → node ≡ get_or nodes place node → drop place nodes ≡ node ∷ drop (place + 1) nodes
at_place nodes place node h e = at_drop_more (λ xs. xs) nodes place node h ∙ ap (λ n. n ∷ drop (place + 1) nodes) (sym e)

pub gone_on : {N A : Type 0} (read : List A → N → Reading A) (start : List A) (nodes : List N) (found : List A) (place : ℕ) (node : N) (a : A) →
    GoesOn read start nodes found place → place < length nodes → node ≡ get_or nodes place node → read found node (Ok a) → GoesOn read start nodes (found ++ a ∷ []) (place + 1)
gone_on {N} {A} read start nodes found place node a g h e k =
    record { whole = λ r rest. g.whole r (subst (λ (xs : List N). Each read found xs r) (sym (at_place nodes place node h e)) (then_is (read found node) (λ b. Each read (found ++ b ∷ []) (drop (place + 1) nodes)) a r k rest)) }

pub spoilt : {N A : Type 0} (read : List A → N → Reading A) (start : List A) (nodes : List N) (found : List A) (place : ℕ) (node : N) (e : SchemaError) →
    GoesOn read start nodes found place → place < length nodes → node ≡ get_or nodes place node → Refuses (read found node) e → Refuses (Each read start nodes) e
spoilt {N} {A} read start nodes found place node (Fault f) g h e k =
    g.whole (Err f) (subst (λ (xs : List N). Each read found xs (Err f)) (sym (at_place nodes place node h e)) (record { outcome = Err f; is = k; after = refl }))
spoilt read start nodes found place node OutOfMemory g h e k = tt

pub all_read : {N A : Type 0} (read : List A → N → Reading A) (start : List A) (nodes : List N) (found : List A) (place : ℕ) →
    GoesOn read start nodes found place → length nodes ≤ place → Each read start nodes (Ok found)
all_read {N} {A} read start nodes found place g h =
    g.whole (Ok found) (subst (λ (xs : List N). Each read found xs (Ok found)) (sym (at_drop_all (λ (xs : List N). xs) nodes place h)) refl)

-- ---- readings with one outcome at most

pub is_single : {A : Type 0} (outcome : Outcome A) → IsSingle (Is outcome)
is_single outcome r q h k = sym h ∙ k

single_after : {A B : Type 0} (next : A → Reading B) → ((a : A) → IsSingle (next a)) → (o : Outcome A) → IsSingle (After o next)
single_after next same (Ok a) r q h k = same a r q h k
single_after next same (Err f) r q h k = h ∙ sym k

pub then_single : {A B : Type 0} (first : Reading A) (next : A → Reading B) → IsSingle first → ((a : A) → IsSingle (next a)) → IsSingle (Then first next)
then_single {A} {B} first next one same r q h k =
    let e = one h.outcome k.outcome h.is k.is in
    single_after next same k.outcome r q (subst (λ (o : Outcome A). After o next r) e h.after) k.after

pub given_single : {N A : Type 0} (part : Option N) (missing : A) (read : N → Reading A) → ((node : N) → IsSingle (read node)) → IsSingle (IfGiven part missing read)
given_single None missing read same r q h k = sym h ∙ k
given_single (Some node) missing read same r q h k = same node r q h k

pub each_single : {N A : Type 0} (read : List A → N → Reading A) → ((found : List A) (node : N) → IsSingle (read found node)) → (found : List A) (nodes : List N) → IsSingle (Each read found nodes)
each_single read same found [] r q h k = h ∙ sym k
each_single read same found (node ∷ nodes) r q h k =
    then_single (read found node) (λ a. Each read (found ++ a ∷ []) nodes) (same found node) (λ a. each_single read same (found ++ a ∷ []) nodes) r q h k
