-- The integrals that normal forms show, ascending, each once, are the masters.
use Rattle.std.proofs.Common.{◌≡◌, ◌↔◌, ℕ, zero, suc, ◌≤◌, true, List, [], ◌∷◌, length, take, AllPairs, Contains, is_some, refl, sym, ap, subst, ◌∙◌, inl, inr, arith}
use Rattle.std.specs.FinMap as finite
use Rattle.std.specs.FinMap.Entries.{is_some-find}
use Rattle.std.specs.List.{flat_map, list_any}
use Rattle.std.specs.Ordering.{eq_by_cmp, flip_args}
use Rattle.std.specs.Cmp.{Equal-is}
use Rattle.std.proofs.lemmas.Cmp.{back_total, eq_by_cmp_equiv}
use Rattle.std.proofs.lemmas.List.{take_all}
use Rattle.std.proofs.lemmas.List.Elements.{Contains-append_left, Contains-append_right, Contains-append_cases}
use Rattle.std.proofs.lemmas.Map.Views.{list_any-from_Contains, Contains-from_any}
use Rattle.integral_index.specs.declared.Order.{Order}
use Rattle.integral_index.specs.Integral.{Integral}
use Rattle.integral_index.specs.Order.{compare}
use Rattle.integral_index.proofs.Orders.{compare-total}
use Rattle.sparse_row.specs.Row.{Row}
use Rattle.reduction_core.specs.Table.{Table}
use Rattle.reduction_core.specs.NormalForm.{masters}
use Rattle.reduction_core.proofs.Masters.{keys_from_joined, keys_to_joined, keys_of_made, made_of_keys, masters_ascend}
use Rattle.table_text.specs.Distinct.{IsLess}
use Rattle.table_text.specs.TableText.{form_of, shown_integrals}
use Rattle.table_text.proofs.DescendingTerms.{flipped}
use Rattle.table_text.proofs.DistinctLemmas.{one_ascending}

-- the integrals that a row shows are the keys of its map
module _ (row : Row) (y : Integral) where
  same_tests : list_any (eq_by_cmp (flip_args (compare row.order)) y) (shown_integrals row) ≡ list_any (eq_by_cmp (flip_args (compare row.order)) y) (finite.keys row.terms)
  same_tests =
      sym (finite.contains_key-keys (finite.from_entries {R = flip_args (compare row.order)} (finite.entries row.terms)) y)
      ∙ ap is_some (finite.get-from_entries (back_total (compare-total row.order)) (finite.entries row.terms) y) ∙ is_some-find (flip_args (compare row.order)) y (finite.entries row.terms)

  apart : (a b : Integral) → eq_by_cmp (flip_args (compare row.order)) a b ≡ true → a ≡ b
  apart a b e = flipped row.order a b ((Equal-is (flip_args (compare row.order) a b)).0 e)

  key_from_shown : Contains (shown_integrals row) y → Contains (finite.keys row.terms) y
  key_from_shown m = Contains-from_any apart y (finite.keys row.terms) (sym same_tests ∙ list_any-from_Contains (eq_by_cmp_equiv (back_total (compare-total row.order))) y (shown_integrals row) m)

  shown_from_key : Contains (finite.keys row.terms) y → Contains (shown_integrals row) y
  shown_from_key m = Contains-from_any apart y (shown_integrals row) (same_tests ∙ list_any-from_Contains (eq_by_cmp_equiv (back_total (compare-total row.order))) y (finite.keys row.terms) m)

module _ {A B : Type 0} (f : A → List B) where
  from_joined : (xs : List A) (y : B) → Contains (flat_map f xs) y → (x : A) × Contains xs x × Contains (f x) y
  from_joined [] y m = absurd (omega (arith, m.1))
  from_joined (x ∷ xs) y m =
      elim (Contains-append_cases (f x) (flat_map f xs) y m) [
        | inl here ↦ (x, (0, omega arith, refl), here)
        | inr later ↦ let found = from_joined xs y later in (found.0, (suc found.1.0, omega (arith, found.1.1), found.1.2), found.2)
      ]

  to_joined : (xs : List A) (y : B) (x : A) → Contains xs x → Contains (f x) y → Contains (flat_map f xs) y
  to_joined [] y x member m = absurd (omega (arith, member.1))
  to_joined (z ∷ xs) y x (zero, h, e) m = Contains-append_left (f z) (flat_map f xs) y (subst (λ u. Contains (f u) y) (sym e) m)
  to_joined (z ∷ xs) y x (suc k, h, e) m = Contains-append_right (f z) (flat_map f xs) y (to_joined xs y x (k, omega (arith, h), e) m)

module _ (zeros : ℕ → List ℕ) (table : Table) (selection : List Integral) where
  abbrev entries_of : Integral → List (Integral × ℕ)
  entries_of x = finite.entries (form_of zeros table x).terms

  -- a list of just the integrals that the normal forms show, ascending, is that of the masters
  pub masters_is : (found : List Integral) → AllPairs (IsLess table.order) found → ((x : Integral) → Contains found x ↔ Contains (flat_map (λ x. shown_integrals (form_of zeros table x)) selection) x) → found ≡ masters table.modulus table.order zeros table.rows selection
  masters_is found up members =
      one_ascending table.order found _ up (masters_ascend table.modulus table.order zeros table.rows selection)
      (λ z m.
      let there = from_joined (λ x. shown_integrals (form_of zeros table x)) selection z ((members z).0 m) in
      made_of_keys table.order (flat_map entries_of selection) z (keys_to_joined entries_of selection z there.0 there.1 (key_from_shown (form_of zeros table there.0) z there.2)))
      (λ z m.
      let there = keys_from_joined entries_of selection z (keys_of_made table.order (flat_map entries_of selection) z m) in
      (members z).1 (to_joined (λ x. shown_integrals (form_of zeros table x)) selection z there.0 there.1 (shown_from_key (form_of zeros table there.0) z there.2)))

  -- the same, of what a loop over the whole selection gathered
  pub found_masters : (i : ℕ) (shown found : List Integral) (order : Order) → length selection ≤ i → shown ≡ flat_map (λ x. shown_integrals (form_of zeros table x)) (take i selection) → order ≡ table.order → AllPairs (IsLess order) found → ((x : Integral) → Contains found x ↔ Contains shown x) → found ≡ masters table.modulus table.order zeros table.rows selection
  found_masters i shown found order past gathered same up members =
      let whole = gathered ∙ ap (flat_map (λ x. shown_integrals (form_of zeros table x))) (take_all i selection past) in
      masters_is found (subst (λ (o : Order). AllPairs (IsLess o) found) same up) (λ x. subst (λ (xs : List Integral). Contains found x ↔ Contains xs x) whole (members x))
