-- Messages in pieces.
use Rattle.std.proofs.Common.{◌≡◌, ℕ, ◌+◌, ◌<◌, List, [], ◌∷◌, ◌++◌, map, take, drop, length, get_or, Option, option_map, Result, Ok, Err, OnErr, sym, ap, ◌∙◌, subst}
use Rattle.std.specs.List.{concat}
use Rattle.std.proofs.lemmas.List.{take-append-drop, at_drop_more, take_more, map-append, append-nil}
use Rattle.std.proofs.lemmas.List.Folds.{concat-append}
use Rattle.kira_outside.specs.Stream.{Stream, appended}
use Rattle.table_text.specs.Sending.{IsPrefixSent}
use Rattle.table_text.proofs.SendingLemmas.{prefix-first, prefix-second, appended-appended}

-- what holds anyway holds of an error
pub on_err : {A E : Type 0} (r : Result A E) (P : Type 0) → P → OnErr r P
on_err (Ok a) P h = tt
on_err (Err e) P h = h

module _ {A : Type 0} (f : A → List ℕ) where
  abbrev joined : List A → List ℕ
  joined xs = concat (map f xs)

  joined-append : (xs ys : List A) → joined (xs ++ ys) ≡ joined xs ++ joined ys
  joined-append xs ys = ap concat (map-append f xs ys) ∙ concat-append (map f xs) (map f ys)

  -- the pieces up to one of them, and it
  pub joined_more : (xs : List A) (place : ℕ) (d : A) → place < length xs → joined (take (place + 1) xs) ≡ joined (take place xs) ++ f (get_or xs place d)
  joined_more xs place d inside =
      ap joined (take_more xs place d inside) ∙ joined-append (take place xs) (get_or xs place d ∷ [])
      ∙ ap (λ ys. joined (take place xs) ++ ys) (append-nil (f (get_or xs place d)))

  -- those before it, it, and those behind it
  joined_split : (xs : List A) (place : ℕ) (d : A) → place < length xs → joined xs ≡ joined (take place xs) ++ (f (get_or xs place d) ++ joined (drop (place + 1) xs))
  joined_split xs place d inside =
      ap joined (sym (take-append-drop place xs)) ∙ joined-append (take place xs) (drop place xs)
      ∙ ap (λ ys. joined (take place xs) ++ joined ys) (at_drop_more (λ ys. ys) xs place d inside)

  -- a piece was written in part, behind those before it
  pub prefix_within : (xs : List A) (place : ℕ) (d : A) (before middle after : Option Stream) → place < length xs → middle ≡ option_map (appended (joined (take place xs))) before →
      IsPrefixSent (f (get_or xs place d)) middle after → IsPrefixSent (joined xs) before after
  prefix_within xs place d before middle after inside whole part =
      subst (λ (bytes : List ℕ). IsPrefixSent bytes before after) (sym (joined_split xs place d inside))
      (prefix-second (joined (take place xs)) (f (get_or xs place d) ++ joined (drop (place + 1) xs)) before middle after whole
      (prefix-first (f (get_or xs place d)) (joined (drop (place + 1) xs)) middle after part))

  -- a piece was written behind those before it
  pub written_more : (xs : List A) (place : ℕ) (d : A) (before middle after : Option Stream) → place < length xs → middle ≡ option_map (appended (joined (take place xs))) before →
      after ≡ option_map (appended (f (get_or xs place d))) middle → after ≡ option_map (appended (joined (take (place + 1) xs))) before
  written_more xs place d before middle after inside whole one =
      one ∙ ap (option_map (appended (f (get_or xs place d)))) whole
      ∙ appended-appended (joined (take place xs)) (f (get_or xs place d)) before
      ∙ ap (λ bytes. option_map (appended bytes) before) (sym (joined_more xs place d inside))
