-- What holds of every value that a part of a file is read as.
use Rattle.std.proofs.Common.{◌≡◌, ◌≤◌, ◌+◌, ℕ, Bool, true, false, cond, All, List, [], ◌∷◌, ◌++◌, length, length-append, Result, Ok, Err, refl, subst, arith}
use Rattle.std.specs.Prelude.{IfOk}
use Rattle.std.proofs.lemmas.List.Elements.{All-push}
use Rattle.yaml_text.specs.declared.tree.Tree.{Tree}
use Rattle.input_schema.specs.declared.faults.File.{File}
use Rattle.input_schema.specs.declared.faults.InputFault.{InputFault}
use Rattle.input_schema.specs.declared.faults.SchemaError.{SchemaError}
use Rattle.input_schema.specs.Readings.{Outcome, ◌>>=◌, Gives, each}
use Rattle.input_schema.specs.Nodes.{line_of, list, within, items}

-- of what follows a part, where it holds of it for each value of the part
pub behind : {A B : Type 0} (o : Outcome A) (f : A → Outcome B) (P : B → Type 0) → ((a : A) → IfOk (f a) P) → IfOk (o >>= f) P
behind (Ok a) f P h = h a
behind (Err e) f P h = tt

-- the same, where something is known of the part
pub behind_known : {A B : Type 0} (o : Outcome A) (f : A → Outcome B) (Q : A → Type 0) (P : B → Type 0) → IfOk o Q → ((a : A) → Q a → IfOk (f a) P) → IfOk (o >>= f) P
behind_known (Ok a) f Q P k h = h a k
behind_known (Err e) f Q P k h = tt

pub weaker : {A : Type 0} (o : Outcome A) (Q P : A → Type 0) → IfOk o Q → ((a : A) → Q a → P a) → IfOk o P
weaker (Ok a) Q P k h = h a k
weaker (Err e) Q P k h = tt

pub both : {A : Type 0} (o : Outcome A) (Q R P : A → Type 0) → IfOk o Q → IfOk o R → ((a : A) → Q a → R a → P a) → IfOk o P
both (Ok a) Q R P h k f = f a h k
both (Err e) Q R P h k f = tt

-- a call answers such a value, where its outcome is
pub answered : {A : Type 0} (o : Outcome A) (r : Result A SchemaError) (P : A → Type 0) → Gives o r → IfOk o P → IfOk r P
answered {A} o (Ok a) P h k = subst (λ (x : Outcome A). IfOk x P) h k
answered o (Err e) P h k = tt

-- ---- lists

pub each_counts : {N A : Type 0} (read : N → Outcome A) (found : List A) (nodes : List N) → IfOk (each read found nodes) (λ all. length all ≡ length found + length nodes)
each_counts read found [] = omega arith
each_counts {N} {A} read found (node ∷ nodes) =
    behind (read node) (λ a. each read (found ++ a ∷ []) nodes) (λ all. length all ≡ length found + length (node ∷ nodes))
    (λ a. weaker (each read (found ++ a ∷ []) nodes) (λ all. length all ≡ length (found ++ a ∷ []) + length nodes) (λ all. length all ≡ length found + length (node ∷ nodes))
    (each_counts read (found ++ a ∷ []) nodes) (λ all e. omega (arith, e, length-append found (a ∷ []))))

pub each_all : {N A : Type 0} (read : N → Outcome A) (P : A → Type 0) → ((n : N) → IfOk (read n) P) → (found : List A) (nodes : List N) → All P found → IfOk (each read found nodes) (All P)
each_all read P one found [] all = all
each_all read P one found (node ∷ nodes) all =
    behind_known (read node) (λ a. each read (found ++ a ∷ []) nodes) P (All P) (one node)
    (λ a h. each_all read P one (found ++ a ∷ []) nodes (All-push P found a all h))

pub tested : {A : Type 0} (b : Bool) (a : A) (e : InputFault) (P : A → Type 0) → (b ≡ true → P a) → IfOk (cond b (Ok a) (Err e)) P
tested true a e P h = h refl
tested false a e P h = tt

pub items_few : (file : File) (node : Tree) (least most : ℕ) → IfOk (items file node least most) (λ nodes. length nodes ≤ most)
items_few file node least most =
    behind (list file node) (within file (line_of node) least most) (λ nodes. length nodes ≤ most) (λ nodes. tested _ nodes _ (λ found. length found ≤ most) (λ e. grind arith))

-- what a test lets through
pub guarded : {A : Type 0} (b : Bool) (o : Outcome A) (e : InputFault) (P : A → Type 0) → (b ≡ true → IfOk o P) → IfOk (cond b o (Err e)) P
guarded true o e P h = h refl
guarded false o e P h = tt

pub either : {A : Type 0} (b : Bool) (x y : Outcome A) (P : A → Type 0) → IfOk x P → IfOk y P → IfOk (cond b x y) P
either true x y P h k = h
either false x y P h k = k
