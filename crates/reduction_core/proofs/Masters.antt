-- The list of the masters: which integrals it has, and that it ascends.
use Rattle.std.proofs.Common.{◌≡◌, ◌↔◌, ℕ, zero, suc, ◌<◌, Bool, true, false, ◌&&◌, T, List, [], ◌∷◌, length, get_or, map, All, AllPairs, Contains, is_some, refl, sym, ap, subst, ◌∙◌, inl, inr, arith}
use Rattle.std.specs.FinMap as map_of
use Rattle.std.specs.FinMap.Entries.{below_all, is_sorted, is_some-find}
use Rattle.std.specs.List.{flat_map, list_any}
use Rattle.std.specs.Ordering.{is_lt, is_eq, eq_by_cmp}
use Rattle.std.specs.declared.cmp.Ordering.{Ordering}
use Rattle.std.specs.declared.cmp.Ordering.TheVariants.{Less, Equal, Greater}
use Rattle.std.proofs.lemmas.Bool.{false≢true}
use Rattle.std.proofs.lemmas.Cmp.{eq_by_cmp_equiv}
use Rattle.std.proofs.lemmas.List.{map-append}
use Rattle.std.proofs.lemmas.List.Elements.{Contains-append_left, Contains-append_right, Contains-append_cases}
use Rattle.std.proofs.lemmas.Map.Views.{list_any-from_Contains, Contains-from_any}
use Rattle.integral_index.specs.declared.Order.{Order}
use Rattle.integral_index.specs.Integral.{Integral}
use Rattle.integral_index.specs.Order.{compare}
use Rattle.integral_index.proofs.Orders.{compare-total, compare-IsAntisymmetric}
use Rattle.sparse_row.specs.Row.{Row, IsRow}
use Rattle.reduction_core.specs.NormalForm.{normal_form, IsMaster, masters}
use Rattle.sector_forward.proofs.Members.{Contains-cons_cases, Contains-here, Contains-there}
use Rattle.reduction_core.proofs.Pivots.{key_of_shown, shown_of_key}
use Rattle.reduction_core.proofs.Differences.{normal_form_is_row}

module _ {K A X : Type 0} (f : A → List (K × X)) where
  -- a key of the joined lists is a key of one of them
  pub keys_from_joined : (xs : List A) (y : K) → Contains (map (λ e. e.0) (flat_map f xs)) y → (x : A) × Contains xs x × Contains (map (λ e. e.0) (f x)) y
  keys_from_joined [] y key = absurd (omega (arith, key.1))
  keys_from_joined (x ∷ xs) y key =
      elim (Contains-append_cases (map (λ e. e.0) (f x)) (map (λ e. e.0) (flat_map f xs)) y (subst (λ ks. Contains ks y) (map-append (λ e. e.0) (f x) (flat_map f xs)) key)) [
        | inl here ↦ (x, Contains-here x xs, here)
        | inr later ↦ let found = keys_from_joined xs y later in (found.0, Contains-there x xs found.0 found.1, found.2)
      ]

  pub keys_to_joined : (xs : List A) (y : K) (x : A) → Contains xs x → Contains (map (λ e. e.0) (f x)) y → Contains (map (λ e. e.0) (flat_map f xs)) y
  keys_to_joined [] y x member key = absurd (omega (arith, member.1))
  keys_to_joined (z ∷ xs) y x member key =
      subst (λ ks. Contains ks y) (sym (map-append (λ e. e.0) (f z) (flat_map f xs)))
      (elim (Contains-cons_cases z xs x member) [
        | inl same ↦ Contains-append_left (map (λ e. e.0) (f z)) (map (λ e. e.0) (flat_map f xs)) y (subst (λ u. Contains (map (λ e. e.0) (f u)) y) (sym same) key)
        | inr later ↦ Contains-append_right (map (λ e. e.0) (f z)) (map (λ e. e.0) (flat_map f xs)) y (keys_to_joined xs y x later key)
      ])

tied : (r : Ordering) → is_eq r ≡ true → r ≡ Equal
tied Less h = absurd (false≢true h)
tied Equal h = refl
tied Greater h = absurd (false≢true h)

-- the keys of a map that is made of entries are the keys of the entries
module _ (order : Order) (es : List (Integral × ℕ)) (y : Integral) where
  abbrev made : map_of.FinMap (compare order) ℕ
  made = map_of.from_entries es

  same_tests : list_any (eq_by_cmp (compare order) y) (map_of.keys made) ≡ list_any (eq_by_cmp (compare order) y) (map (λ e. e.0) es)
  same_tests = sym (map_of.contains_key-keys made y) ∙ ap is_some (map_of.get-from_entries (compare-total order) es y) ∙ is_some-find (compare order) y es

  distinct : (a b : Integral) → eq_by_cmp (compare order) a b ≡ true → a ≡ b
  distinct a b e = compare-IsAntisymmetric order a b (tied (compare order a b) e)

  pub keys_of_made : Contains (map_of.keys made) y → Contains (map (λ e. e.0) es) y
  keys_of_made key = Contains-from_any distinct y (map (λ e. e.0) es) (sym same_tests ∙ list_any-from_Contains (eq_by_cmp_equiv (compare-total order)) y (map_of.keys made) key)

  pub made_of_keys : Contains (map (λ e. e.0) es) y → Contains (map_of.keys made) y
  made_of_keys key = Contains-from_any distinct y (map_of.keys made) (same_tests ∙ list_any-from_Contains (eq_by_cmp_equiv (compare-total order)) y (map (λ e. e.0) es) key)

pub masters_are_listed : (p : ℕ) (order : Order) (zeros : ℕ → List ℕ) (table : List Row) (selection : List Integral) (y : Integral) → 1 < p → All (IsRow p order) table → Contains (masters p order zeros table selection) y ↔ IsMaster p order zeros table selection y
masters_are_listed p order zeros table selection y large rows =
    let form : Integral → Row = λ x. normal_form p order (zeros x.family) table x in
    let entries_of : Integral → List (Integral × ℕ) = λ x. map_of.entries (form x).terms in (
      λ listed.
          let found = keys_from_joined entries_of selection y (keys_of_made order (flat_map entries_of selection) y listed) in
          (found.0, found.1, shown_of_key p order (form found.0) y (normal_form_is_row p order (zeros found.0.family) table found.0 large rows) found.2),
      λ (x, selected, shows).
          made_of_keys order (flat_map entries_of selection) y (keys_to_joined entries_of selection y x selected (key_of_shown (form x) y shows)),
    )

-- ---- the keys of a map ascend

left_part : (a b : Bool) → T (a && b) → T a
left_part true b h = tt
left_part false b h = h

right_part : (a b : Bool) → T (a && b) → T b
right_part true b h = h
right_part false b h = absurd h

less : (r : Ordering) → T (is_lt r) → r ≡ Less
less Less h = refl
less Equal h = absurd h
less Greater h = absurd h

module _ {K X : Type 0} (R : K → K → Ordering) where
  above : (x : K) (es : List (K × X)) → T (below_all R x es) → (k : ℕ) (d : K) → k < length (map (λ e. e.0) es) → R x (get_or (map (λ e. e.0) es) k d) ≡ Less
  above x [] h k d l = absurd (omega arith)
  above x (e ∷ es) h zero d l = less (R x e.0) (left_part _ _ h)
  above x (e ∷ es) h (suc k) d l = above x es (right_part (is_lt (R x e.0)) _ h) k d (omega arith)

  keys_ascend : (es : List (K × X)) → T (is_sorted R es) → AllPairs (λ x y. R x y ≡ Less) (map (λ e. e.0) es)
  keys_ascend [] h i j d l in_j = absurd (omega arith)
  keys_ascend (e ∷ es) h zero zero d l in_j = absurd (omega arith)
  keys_ascend (e ∷ es) h zero (suc j) d l in_j = above e.0 es (left_part _ _ h) j d (omega arith)
  keys_ascend (e ∷ es) h (suc i) zero d l in_j = absurd (omega arith)
  keys_ascend (e ∷ es) h (suc i) (suc j) d l in_j = keys_ascend es (right_part (below_all R e.0 es) _ h) i j d (omega arith) (omega arith)

pub masters_ascend : (p : ℕ) (order : Order) (zeros : ℕ → List ℕ) (table : List Row) (selection : List Integral) → AllPairs (λ x y. compare order x y ≡ Less) (masters p order zeros table selection)
masters_ascend p order zeros table selection =
    keys_ascend (compare order) _ (map_of.entries_sorted (map_of.from_entries {R = compare order} (flat_map (λ x. map_of.entries (normal_form p order (zeros x.family) table x).terms) selection)))
