-- The search for a name over a list of entries.
use Rattle.std.proofs.Common.{◌≡◌, ℕ, suc, ◌+◌, ◌<◌, true, false, nat_eq, List, ◌∷◌, length, get_or, map, drop, Some, cond, sym, ◌∙◌, ap, add-one}
use Rattle.std.proofs.Math.Seq.{drop-cons}
use Rattle.std.specs.Ordering.{nat_cmp, eq_by_cmp}
use Rattle.std.specs.Cmp.Lexicographic.{slice_cmp, texts_ties, nat_list_eq_equiv}
use lib.Pointwise.{pointwise}
use Rattle.std.specs.FinMap.{find}
use Rattle.kira_outside.specs.declared.memory_files.Entry.{Entry}
use Rattle.kira_outside.specs.MemoryState.{named}

same_name : (x y : List ℕ) → eq_by_cmp (slice_cmp nat_cmp) x y ≡ pointwise nat_eq y x
same_name x y = sym (texts_ties x y) ∙ nat_list_eq_equiv.symm x y

module _ (name : List ℕ) (entries : List Entry) (i : ℕ) (entry : Entry) (below : i < length entries) (is : entry ≡ get_or entries i entry) (text : List ℕ) (text_is : text ≡ entry.name) where
  -- from place i on, the entry there decides where it has the name
  find-drop : find (slice_cmp nat_cmp) name (map named (drop i entries)) ≡ cond (pointwise nat_eq text name) (Some entry.bytes.items) (find (slice_cmp nat_cmp) name (map named (drop (i + 1) entries)))
  find-drop =
      ap (λ es. find (slice_cmp nat_cmp) name (map named es)) (drop-cons entries i entry below ∙ ap (λ e. e ∷ drop (suc i) entries) (sym is))
      ∙ ap (λ b. cond b (Some entry.bytes.items) (find (slice_cmp nat_cmp) name (map named (drop (suc i) entries)))) (same_name name entry.name ∙ ap (λ t. pointwise nat_eq t name) (sym text_is))
      ∙ ap (λ k. cond (pointwise nat_eq text name) (Some entry.bytes.items) (find (slice_cmp nat_cmp) name (map named (drop k entries)))) (sym (add-one i))

  pub find-here : pointwise nat_eq text name ≡ true → find (slice_cmp nat_cmp) name (map named (drop i entries)) ≡ Some entry.bytes.items
  find-here same = find-drop ∙ ap (λ b. cond b (Some entry.bytes.items) (find (slice_cmp nat_cmp) name (map named (drop (i + 1) entries)))) same

  pub find-past : pointwise nat_eq text name ≡ false → find (slice_cmp nat_cmp) name (map named (drop i entries)) ≡ find (slice_cmp nat_cmp) name (map named (drop (i + 1) entries))
  find-past other = find-drop ∙ ap (λ b. cond b (Some entry.bytes.items) (find (slice_cmp nat_cmp) name (map named (drop (i + 1) entries)))) other
