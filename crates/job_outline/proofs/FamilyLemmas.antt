-- Families that were read have few symmetries.
use Rattle.std.proofs.Common.{◌≡◌, ◌≤◌, ◌+◌, ℕ, All, List, [], ◌∷◌, ◌++◌, length, length-append, Option, Some, None, Ok, Err, sym, subst, arith, codes}
use Rattle.std.specs.Prelude.{IfOk}
use Rattle.std.proofs.lemmas.List.Elements.{All-nil, All-push}
use Rattle.yaml_text.specs.declared.tree.Pair.{Pair}
use Rattle.yaml_text.specs.Lines.{Bytes}
use Rattle.input_schema.specs.declared.faults.File.TheVariants as file
use Rattle.input_schema.specs.Readings.{Outcome, Reading, Is, After, Then, IfGiven, Each}
use Rattle.input_schema.specs.Nodes.{items}
use Rattle.input_schema.specs.Maps.{value_of}
use Rattle.kinematics_schema.specs.declared.content.Kinematics.{Kinematics}
use Rattle.family_schema.specs.declared.content.Symmetry.{Symmetry}
use Rattle.family_schema.specs.declared.content.Family.{Family}
use Rattle.family_schema.specs.declared.scope.Scope.{Scope}
use Rattle.family_schema.specs.FamilyFile.{ReadsSymmetry, ReadsSymmetries, ReadsBody, ReadsFamily, ReadsFamilies}
use Rattle.job_outline.proofs.Outcomes.{items_few}

-- what was read in two parts
pub then_has : {A B : Type 0} (first : Reading A) (next : A → Reading B) (b : B) (P : Type 0) → Then first next (Ok b) → ((a : A) → first (Ok a) → next a (Ok b) → P) → P
then_has {A} {B} first next b P h f = by h.outcome h.is h.after
  where
    by : (o : Outcome A) → first o → After o next (Ok b) → P
    by (Ok a) is after = f a is after
    by (Err e) is after = absurd (let no : Ok b ≡ Err e = after in cc)

pub each_has : {N A : Type 0} (read : List A → N → Reading A) (P : A → Type 0) → ((found : List A) (node : N) (a : A) → read found node (Ok a) → P a) →
    (start : List A) (nodes : List N) (all : List A) → All P start → Each read start nodes (Ok all) → All P all
each_has read P one start [] all h e = subst (λ (o : Outcome _). IfOk o (All P)) (sym e) h
each_has read P one start (node ∷ nodes) all h e =
    then_has (read start node) (λ a. Each read (start ++ a ∷ []) nodes) all (All P all) e (λ a is rest.
    each_has read P one (start ++ a ∷ []) nodes all (All-push P start a h (one start node a is)) rest)

each_counts : {N A : Type 0} (read : List A → N → Reading A) (start : List A) (nodes : List N) (all : List A) → Each read start nodes (Ok all) → length all ≡ length start + length nodes
each_counts read start [] all e = subst (λ (o : Outcome _). IfOk o (λ found. length found ≡ length start + 0)) (sym e) (omega arith)
each_counts read start (node ∷ nodes) all e =
    then_has (read start node) (λ a. Each read (start ++ a ∷ []) nodes) all (length all ≡ length start + length (node ∷ nodes)) e (λ a is rest.
    let counted = each_counts read (start ++ a ∷ []) nodes all rest in omega (arith, counted, length-append start (a ∷ [])))

few_read : (scope : Scope) (node : _) (found : List Symmetry) → ReadsSymmetries scope node (Ok found) → length found ≤ 64
few_read scope node found h =
    then_has (Is (items file.Families node 0 64)) (Each (λ others item. ReadsSymmetry scope item) []) found (length found ≤ 64) h (λ nodes is rest.
    let few : length nodes ≤ 64 = subst (λ (o : Outcome _). IfOk o (λ xs. length xs ≤ 64)) is (items_few file.Families node 0 64) in
    let counted = each_counts (λ others item. ReadsSymmetry scope item) [] nodes found rest in
    omega (arith, few, counted))

few_given : (scope : Scope) (part : Option _) (found : List Symmetry) → IfGiven part [] (ReadsSymmetries scope) (Ok found) → length found ≤ 64
few_given scope None found h = subst (λ (o : Outcome (List Symmetry)). IfOk o (λ xs. length xs ≤ 64)) h (omega arith)
few_given scope (Some node) found h = few_read scope node found h

abbrev HasFew : Family → Type 0
HasFew family = length family.symmetries ≤ 64

body_few : (pairs : List Pair) (line : ℕ) (scope : Scope) (width : ℕ) (name : Bytes) (family : Family) → ReadsBody pairs line scope width name (Ok family) → HasFew family
body_few pairs line scope width name family h =
    then_has _ _ family (HasFew family) h (λ top is rest.
    then_has _ _ family (HasFew family) rest (λ listed is2 rest2.
    then_has _ _ family (HasFew family) rest2 (λ propagators is3 rest3.
    then_has _ _ family (HasFew family) rest3 (λ zero is4 rest4.
    then_has (IfGiven (value_of pairs (codes "symmetries")) [] (ReadsSymmetries scope)) _ family (HasFew family) rest4 (λ found given made.
    subst (λ (o : Outcome Family). IfOk o HasFew) made (few_given scope (value_of pairs (codes "symmetries")) found given))))))

family_few : (kinematics : Kinematics) (found : List Family) (node : _) (family : Family) → ReadsFamily kinematics found node (Ok family) → HasFew family
family_few kinematics found node family h =
    then_has _ _ family (HasFew family) h (λ pairs is rest.
    then_has _ _ family (HasFew family) rest (λ head is2 body. body_few pairs _ _ _ _ family body))

-- at most 64 each
pub few_symmetries : (kinematics : Kinematics) (tree : _) (families : List Family) → ReadsFamilies kinematics tree (Ok families) → All (λ family. length family.symmetries ≤ 64) families
few_symmetries kinematics tree families h =
    then_has _ _ families (All HasFew families) h (λ pairs is rest.
    then_has _ _ families (All HasFew families) rest (λ node is2 listed.
    then_has _ _ families (All HasFew families) listed (λ nodes is3 each.
    each_has (ReadsFamily kinematics) HasFew (family_few kinematics) [] nodes families (All-nil HasFew) each)))
