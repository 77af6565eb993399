-- What the text of a table tells of it.
use Rattle.std.proofs.Common.{◌≡◌, ◌≢◌, ℕ, zero, suc, ◌<◌, Bool, true, false, T, List, [], ◌∷◌, length, get_or, refl, sym, ap, ◌∙◌, cond, Some, arith, unwrap_or}
use Rattle.std.specs.Prelude.{All, Contains}
use Rattle.std.specs.List.{AllByRecursion, list_all}
use Rattle.std.specs.FinMap as finite
use Rattle.std.specs.FinMap.{find, is_sorted}
use Rattle.std.specs.FinMap.Entries.{below_all}
use Rattle.std.specs.declared.cmp.Ordering.{Ordering}
use Rattle.std.specs.declared.cmp.Ordering.TheVariants.{Less, Equal, Greater}
use Rattle.std.specs.Ordering.{eq_by_cmp, is_eq, is_lt, flip_args, ordering_reverse}
use Rattle.std.specs.Cmp.{IsTotalOrder}
use mathlib.Core.Bool.{false≢true}
use Rattle.std.proofs.lemmas.Cmp.{back_total, tied_itself}
use Rattle.std.proofs.lemmas.Bool.{and_parts}
use Rattle.std.proofs.lemmas.List.Elements.{recursion_from_All, All-from_recursion, All-contains, Contains-get_or}
use Rattle.integral_index.specs.Integral.{Integral}
use Rattle.integral_index.specs.Order.{by_fields, compare}
use Rattle.integral_index.proofs.Orders.{by_fields-total, by_fields-IsAntisymmetric, compare-total}
use Rattle.text_tokens.specs.Tokens.{is_name_byte}
use Rattle.sparse_row.specs.Row.{Row, coefficient, IsRow}
use Rattle.reduction_core.specs.Table.{Table}
use Rattle.reduction_core.proofs.Differences.{normal_form_is_row}
use Rattle.table_text.specs.Pieces.{descending_terms}
use Rattle.table_text.specs.TableText.{form_of}
use Rattle.table_text.specs.Laws.{AreFamilyNames, IsTextOf, TextTellsSelection, TextTellsTerms, TextTellsNormalForms, NamesArePlain}
use Rattle.table_text.proofs.DescendingTerms.{find-other, flipped}
use Rattle.table_text.proofs.ReadPieces.{IsWritten}
use Rattle.table_text.proofs.ReadLines.{IsLine, AreSameTexts, same_lines}

-- ---- the terms of a row, in whatever order they stand

module _ (row : Row) where
  abbrev down : Integral → Integral → Ordering
  down = flip_args (compare row.order)

  down_total : IsTotalOrder down
  down_total = back_total (compare-total row.order)

  get_down : (y : Integral) → finite.get row.terms y ≡ find down y (descending_terms row)
  get_down y =
      let all = finite.entries row.terms in
      finite.get-entries row.terms y
      ∙ sym (find-other down by_fields down_total (flipped row.order) by_fields-total by_fields-IsAntisymmetric y all)
      ∙ sym (finite.get-from_entries down_total all y)
      ∙ finite.get-entries (finite.from_entries {R = down} all) y

-- rows with the same terms from the greatest to the least have the same terms, also where these orders differ
pub same_terms : (row other : Row) → descending_terms row ≡ descending_terms other → row.terms ≡ other.terms
same_terms row other e =
    finite.same_map by_fields-total by_fields-IsAntisymmetric row.terms other.terms
    (λ y. get_down row y ∙ ap (find (down row) y) e
    ∙ find-other (down row) (down other) (down_total row) (flipped row.order) (down_total other) (flipped other.order) y (descending_terms other)
    ∙ sym (get_down other y))

-- ---- the value of an entry of a map

of_T : (b : Bool) → T b → b ≡ true
of_T true h = refl
of_T false h = absurd h

less_back : (r : Ordering) → is_lt r ≡ true → is_eq (ordering_reverse r) ≡ false
less_back Less h = refl
less_back Equal h = absurd (false≢true h)
less_back Greater h = absurd (false≢true h)

module _ {K X : Type 0} (R : K → K → Ordering) (total : IsTotalOrder R) where
  below_at : (x : K) (es : List (K × X)) → below_all R x es ≡ true → (i : ℕ) (d : K × X) → i < length es → is_lt (R x (get_or es i d).0) ≡ true
  below_at x [] h i d within = absurd (omega (arith, within))
  below_at x (e ∷ es) h zero d within = (and_parts _ _ h).0
  below_at x (e ∷ es) h (suc i) d within = below_at x es (and_parts _ _ h).1 i d (omega (arith, within))

  value_at : (es : List (K × X)) → is_sorted R es ≡ true → (i : ℕ) (d : K × X) → i < length es → find R (get_or es i d).0 es ≡ Some (get_or es i d).1
  value_at [] h i d within = absurd (omega (arith, within))
  value_at (e ∷ es) h zero d within = ap (λ b. cond b (Some e.1) (find R e.0 es)) (ap is_eq (tied_itself total e.0))
  value_at (e ∷ es) h (suc i) d within =
      let key = (get_or es i d).0 in
      let parts = and_parts (below_all R e.0 es) (is_sorted R es) h in
      let inside : i < length es = omega (arith, within) in
      let apart : eq_by_cmp R key e.0 ≡ false = ap is_eq (total.antisymm key e.0) ∙ less_back (R e.0 key) (below_at e.0 es parts.0 i d inside) in
      ap (λ b. cond b (Some e.1) (find R key es)) apart ∙ value_at es parts.1 i d inside

-- a term of a row has the coefficient that the row maps its integral to
term_is : (row : Row) (i : ℕ) (d : Integral × ℕ) → i < length (descending_terms row) → finite.get row.terms (get_or (descending_terms row) i d).0 ≡ Some (get_or (descending_terms row) i d).1
term_is row i d within =
    get_down row (get_or (descending_terms row) i d).0
    ∙ value_at (down row) (down_total row) (descending_terms row) (of_T _ (finite.entries_sorted (finite.from_entries {R = down row} (finite.entries row.terms)))) i d within

-- ---- what one text tells of two tables

module _ (names : List (List ℕ)) (are : AreFamilyNames names) where
  module _ (zeros : ℕ → List ℕ) (table : Table) (selection : List Integral) (text : List ℕ) (is : IsTextOf names zeros table selection text) where
    abbrev form : Integral → Row
    form = form_of zeros table

    pub form_is_row : (x : Integral) → IsRow table.modulus table.order (form x)
    form_is_row x = normal_form_is_row table.modulus table.order (zeros x.family) table.rows x is.above_1 is.rows

    written : (x : Integral) → Contains selection x → All (IsWritten names are) (descending_terms (form x))
    written x member i d within =
        let term = get_or (descending_terms (form x)) i d in
        let row = form_is_row x in
        let at : finite.get (form x).terms term.0 ≡ Some term.1 = term_is (form x) i d within in
        let value : coefficient (form x) term.0 ≡ term.1 = ap (λ o. unwrap_or o 0) at in
        let shown : coefficient (form x) term.0 ≢ 0 = λ none. row.no_zero term.0 (at ∙ ap Some (sym value ∙ none)) in
        let below : coefficient (form x) term.0 < table.modulus = row.below term.0 in
        record {
          named = is.masters term.0 (x, member, shown);
          word = omega (arith, value, below, is.word);
        }

    pub lines_of : AllByRecursion (IsLine names are form) selection
    lines_of =
        recursion_from_All (IsLine names are form) selection
        (λ k d within. record {
          named = is.selected k d within;
          terms = recursion_from_All (IsWritten names are) _ (written (get_or selection k d) (Contains-get_or selection k d within));
        })

  same_texts : (zeros others : ℕ → List ℕ) (table other : Table) (selection chosen : List Integral) (text : List ℕ) → IsTextOf names zeros table selection text → IsTextOf names others other chosen text → AreSameTexts names are (form_of zeros table) (form_of others other) selection chosen
  same_texts zeros others table other selection chosen text is too =
      same_lines names are (form_of zeros table) (form_of others other) selection chosen _ _
      (lines_of zeros table selection text is) (lines_of others other chosen text too) (sym is.is ∙ too.is)

  terms_told : (zeros others : ℕ → List ℕ) (table other : Table) (selection chosen : List Integral) (text : List ℕ) (x : Integral) → IsTextOf names zeros table selection text → IsTextOf names others other chosen text → Contains selection x → (form_of zeros table x).terms ≡ (form_of others other x).terms
  terms_told zeros others table other selection chosen text x is too member =
      let P : Integral → Type 0 = λ z. descending_terms (form_of zeros table z) ≡ descending_terms (form_of others other z) in
      same_terms (form_of zeros table x) (form_of others other x)
      (All-contains P selection x (All-from_recursion P selection (same_texts zeros others table other selection chosen text is too).terms) member)

pub tells_selection : TextTellsSelection
tells_selection names zeros others table other selection chosen text are is too = (same_texts names are zeros others table other selection chosen text is too).integrals

pub tells_terms : TextTellsTerms
tells_terms names zeros others table other selection chosen text x are is too member = terms_told names are zeros others table other selection chosen text x is too member

pub tells_forms : TextTellsNormalForms
tells_forms names zeros others table other selection chosen text x are is too same member =
    let terms = terms_told names are zeros others table other selection chosen text x is too member in
    let order : (form_of zeros table x).order ≡ (form_of others other x).order =
    (form_is_row names are zeros table selection text is x).ordered ∙ same ∙ sym (form_is_row names are others other chosen text too x).ordered in
    λ i. record { order = order i; terms = terms i }

-- ---- the names of the input

name_bytes : (bs : List ℕ) → list_all is_name_byte bs ≡ true → (k d : ℕ) → k < length bs → is_name_byte (get_or bs k d) ≡ true
name_bytes [] h k d within = absurd (omega (arith, within))
name_bytes (b ∷ bs) h zero d within = (and_parts _ _ h).0
name_bytes (b ∷ bs) h (suc k) d within = name_bytes bs (and_parts _ _ h).1 k d (omega (arith, within))

another : (b c : ℕ) → is_name_byte b ≡ true → is_name_byte c ≡ false → b ≢ c
another b c passes fails same = false≢true (sym fails ∙ ap is_name_byte (sym same) ∙ passes)

pub names_plain : NamesArePlain
names_plain name h k d within =
    let byte : is_name_byte (get_or name k d) ≡ true = name_bytes name (and_parts _ _ h).1 k d within in
    (another (get_or name k d) 10 byte refl, another (get_or name k d) 32 byte refl, another (get_or name k d) 91 byte refl)
