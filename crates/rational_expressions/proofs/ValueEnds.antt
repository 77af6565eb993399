-- The end of a value.
use Rattle.std.proofs.Common.{◌≡◌, ◌+◌, ℕ, true, false, List, [], ◌∷◌, ◌++◌, length, Some, arith, refl, sym, ap, ◌∙◌}
use Rattle.std.proofs.lemmas.Bool.{eqb-true}
use Rattle.std.proofs.lemmas.List.{length_push}
use Rattle.text_tokens.specs.Tokens.{Token, tokens_of}
use Rattle.text_tokens.specs.Faults.{tokens_in, IsBlameless}
use Rattle.rational_expressions.specs.Trees.{postfix, tree_of, height_of, IsProgram}
use Rattle.rational_expressions.specs.TreeCode.{tree_again}
use Rattle.rational_expressions.specs.Values.{Sum, sum_tokens, sum_tree, power_tree, IsValueText, IsValue, value_blame}
use Rattle.rational_expressions.specs.ValueReader.{Frame, new_frame, Place, before_atom, before_exponent, behind, outer_tokens, place_tokens, sum_with, start}
use Rattle.rational_expressions.specs.ValueItems.{mode_of, level_of, levels_of, frame_items, Shows, HasRead, product_items, sum_items, is_whole_at}
use Rattle.rational_expressions.specs.declared.value_reader.Reader.{Reader}
use Rattle.rational_expressions.specs.declared.value_reader.Level.{Level}
use Rattle.rational_expressions.specs.declared.value_reader.Mode.TheVariants as mode
use Rattle.rational_expressions.specs.declared.expressions.Item.{Item}
use Rattle.rational_expressions.proofs.ValueLemmas.{at_place, whole, whole_sum}
use Rattle.rational_expressions.proofs.ValueSteps.{frame_sum, frame_sum_height, behind_is}

-- the reader that has read nothing
pub has_read_nothing : (names : List (List ℕ)) (r : Reader) → r.mode ≡ mode.BeforeAtom true → r.level ≡ level_of new_frame → r.outer.items ≡ [] → r.items.items ≡ [] → r.signs ≡ 0 →
    HasRead names [] r
has_read_nothing names r m l o i s = record {
  context = start;
  ran = refl;
  written = refl;
  fresh = refl;
  opened = refl;
  few = omega arith;
  caret = refl;
  shows = record { mode = m; level = l; outer = o; items = i; height = ap height_of i; depth = omega arith; signs = s };
}

-- the items of a whole value
pub record IsEnd (names : List (List ℕ)) (ts : List Token) (items : List Item) : Type 0 where
  pub written : Sum
  pub grammar : sum_tokens written ≡ ts
  pub items_are : items ≡ postfix (sum_tree names written)
  pub height : height_of items ≡ Some 1

no_levels : (outer : List Frame) → length (levels_of outer) ≡ 0 → outer ≡ []
no_levels [] h = refl
no_levels (f ∷ fs) h = absurd (omega (arith, length_push (levels_of fs) (level_of f)))

ends_at : (names : List (List ℕ)) (ts : List Token) (outer : List Frame) (p : Place) (n : ℕ) (r : Reader) → is_whole_at (mode_of p) (levels_of outer) ≡ true →
    outer_tokens outer ++ place_tokens p ≡ ts → Shows names (at_place outer p) n r →
    IsEnd names ts (r.items.items ++ (product_items r.level.product ++ sum_items r.level.sum))
ends_at names ts outer (before_atom b f) n r h e shows = absurd (cc)
ends_at names ts outer (before_exponent f a) n r h e shows = absurd (cc)
ends_at names ts (g ∷ outer) (behind f w) n r h e shows =
    let at = behind_is f w in
    let empty : is_whole_at (mode.Behind at.0) (levels_of (g ∷ outer)) ≡ true = rw at.1 at h in
    absurd (omega (arith, length_push (levels_of outer) (level_of g), eqb-true (length (levels_of (g ∷ outer))) 0 empty))
ends_at names ts [] (behind f w) n r h e shows =
    let marks : r.items.items ++ (product_items r.level.product ++ sum_items r.level.sum) ≡ (frame_items names f ++ postfix (power_tree names w)) ++ (product_items (level_of f).product ++ sum_items (level_of f).sum) =
    ap (λ q. q ++ (product_items r.level.product ++ sum_items r.level.sum)) shows.items
    ∙ ap (λ (l : Level). (frame_items names f ++ postfix (power_tree names w)) ++ (product_items l.product ++ sum_items l.sum)) shows.level in
    let height : height_of (r.items.items ++ (product_items (level_of f).product ++ sum_items (level_of f).sum)) ≡ Some (0 + 1) = frame_sum_height f r.items.items 0 shows.height in
    record {
      written = sum_with f w;
      grammar = whole_sum f w ts e;
      items_are = marks ∙ frame_sum names [] f w;
      height = ap height_of (ap (λ (l : Level). r.items.items ++ (product_items l.product ++ sum_items l.sum)) shows.level) ∙ height;
    }

pub ends : (names : List (List ℕ)) (ts : List Token) (r : Reader) → HasRead names ts r → is_whole_at r.mode r.outer.items ≡ true →
    IsEnd names ts (r.items.items ++ (product_items r.level.product ++ sum_items r.level.sum))
ends names ts r h is =
    let there : is_whole_at (mode_of h.context.place) (levels_of h.context.outer) ≡ true =
    sym (ap (λ m. is_whole_at m r.outer.items) h.shows.mode ∙ ap (λ o. is_whole_at (mode_of h.context.place) o) h.shows.outer) ∙ is in
    ends_at names ts h.context.outer h.context.place _ r there h.written h.shows

pub is_program : (names : List (List ℕ)) (ts : List Token) (items : List Item) → IsEnd names ts items → IsProgram items
is_program names ts items h = record {
  whole = ap postfix (ap tree_of h.items_are ∙ tree_again (sum_tree names h.written)) ∙ sym h.items_are;
  height = h.height;
}

pub is_value : (names : List (List ℕ)) (text : List ℕ) (items : List Item) → IsEnd names (tokens_in (tokens_of text)) items →
    IsBlameless (value_blame names) [] (tokens_in (tokens_of text)) → IsValue names text (tree_of items)
is_value names text items h b = record {
  written = h.written;
  grammar = h.grammar;
  blameless = b;
  tree = ap tree_of h.items_are ∙ tree_again (sum_tree names h.written);
}

-- what is not whole is no value
pub not_whole : (names : List (List ℕ)) (ts : List Token) (r : Reader) → HasRead names ts r → is_whole_at r.mode r.outer.items ≡ false → IsValueText ts → ⊥
not_whole names ts r h is text =
    let w = whole ts h.context h.ran text in
    let at = behind_is w.1 w.2 in
    let m : r.mode ≡ mode.Behind at.0 = h.shows.mode ∙ ap mode_of w.3 ∙ at.1 in
    let o : r.outer.items ≡ [] = h.shows.outer ∙ ap levels_of w.0 in
    let there : is_whole_at r.mode r.outer.items ≡ true = ap (λ q. is_whole_at q r.outer.items) m ∙ ap (λ q. is_whole_at (mode.Behind at.0) q) o in
    cc
