-- What the reader of values keeps, token by token.
use Rattle.std.proofs.Common.{◌≡◌, ◌<◌, ◌≤◌, ◌+◌, ◌*◌, ◌-◌, ℕ, Bool, true, false, cond, leb, List, [], ◌∷◌, ◌++◌, length, Some, None, arith, refl, sym, ap, subst, ◌∙◌, append_assoc, append-nil}
use Rattle.std.proofs.lemmas.List.Sums.{fold_push}
use Rattle.std.proofs.lemmas.Bool.{lt-ltb, le-leb}
use Rattle.text_tokens.specs.Tokens.{Sign, plus_sign, minus_sign, number_of}
use Rattle.rational_expressions.specs.Trees.{postfix, height_of, height_after, then_height}
use Rattle.rational_expressions.specs.Values.{Product, Power, plain, raised, Atom, group, sum_tree, product_tree, power_tree, atom_tree}
use Rattle.rational_expressions.specs.ValueReader.{SumLead, empty, lone, after, ProductLead, bare, by, divided, Frame, new_frame, before_atom, before_exponent, behind, product_with, sum_ending, sum_with}
use Rattle.rational_expressions.specs.ValueItems.{mark_of_sum, mark_of_product, level_of, levels_of, mode_of, sum_lead_items, product_lead_items, frame_items, outer_items, sum_lead_height, product_lead_height, frame_height, outer_height, Shows, product_items, sum_items, first_mark, next_mark, HasSign, HasDone}
use Rattle.rational_expressions.specs.declared.value_reader.Reader.{Reader}
use Rattle.rational_expressions.specs.declared.value_reader.Level.{Level}
use Rattle.rational_expressions.specs.declared.value_reader.Action.TheVariants as action
use Rattle.rational_expressions.specs.declared.value_reader.Mode.{Mode}
use Rattle.rational_expressions.specs.declared.value_reader.Mode.TheVariants as mode
use Rattle.rational_expressions.specs.declared.value_reader.ProductMark.TheVariants as product_mark
use Rattle.rational_expressions.specs.declared.expressions.Item.{Item}
use Rattle.rational_expressions.specs.declared.expressions.Item.TheVariants as item
use Rattle.rational_expressions.proofs.ValueLemmas.{at_place}

-- few parentheses leave few values waiting
pub frame_low : (f : Frame) → frame_height f ≤ 2
frame_low f = omega (arith, sum_low f.sum, product_low f.product)
  where
    sum_low : (l : SumLead) → sum_lead_height l ≤ 1
    sum_low empty = omega arith
    sum_low (lone s) = omega arith
    sum_low (after m s) = omega arith

    product_low : (l : ProductLead) → product_lead_height l ≤ 1
    product_low bare = omega arith
    product_low (by p) = omega arith
    product_low (divided p at) = omega arith

pub outer_low : (outer : List Frame) → outer_height outer ≤ 2 * length outer
outer_low [] = omega arith
outer_low (f ∷ fs) = omega (arith, outer_low fs, frame_low f)

pub height_push : (xs : List Item) (i : Item) (h : ℕ) → height_of xs ≡ Some h → height_of (xs ++ i ∷ []) ≡ height_after h i
height_push xs i h e = fold_push then_height (Some 0) xs i ∙ ap (λ o. then_height o i) e

pub number_height : (xs : List Item) (n h : ℕ) → height_of xs ≡ Some h → h < 67 → height_of (xs ++ item.Number n ∷ []) ≡ Some (h + 1)
number_height xs n h e low = height_push xs (item.Number n) h e ∙ rw (lt-ltb h 67 low) refl

pub place_height_is : (xs : List Item) (n h : ℕ) → height_of xs ≡ Some h → h < 67 → height_of (xs ++ item.Place n ∷ []) ≡ Some (h + 1)
place_height_is xs n h e low = height_push xs (item.Place n) h e ∙ rw (lt-ltb h 67 low) refl

pub power_height : (xs : List Item) (n h : ℕ) → height_of xs ≡ Some h → 1 ≤ h → height_of (xs ++ item.Power n ∷ []) ≡ Some h
power_height xs n h e some = height_push xs (item.Power n) h e ∙ rw (le-leb 1 h some) refl

two_less : (b h : ℕ) → h ≡ b + 1 + 1 → cond (leb 2 h) (Some (h - 1)) None ≡ Some (b + 1)
two_less b h e = rw (le-leb 2 h (omega arith)) (ap Some (omega arith))

pub product_height : (l : ProductLead) (xs : List Item) (b h : ℕ) → height_of xs ≡ Some h → h ≡ b + product_lead_height l + 1 → height_of (xs ++ product_items (mark_of_product l)) ≡ Some (b + 1)
product_height bare xs b h e is = rw (append-nil xs) (e ∙ ap Some (omega arith))
product_height (by p) xs b h e is = height_push xs item.Multiply h e ∙ two_less b h is
product_height (divided p at) xs b h e is = height_push xs (item.Divide at) h e ∙ two_less b h is

pub sum_height : (l : SumLead) (xs : List Item) (b h : ℕ) → height_of xs ≡ Some h → h ≡ b + sum_lead_height l + 1 → height_of (xs ++ sum_items (mark_of_sum l)) ≡ Some (b + 1)
sum_height empty xs b h e is = rw (append-nil xs) (e ∙ ap Some (omega arith))
sum_height (lone plus_sign) xs b h e is = rw (append-nil xs) (e ∙ ap Some (omega arith))
sum_height (lone minus_sign) xs b h e is =
    height_push xs item.Negate h e ∙ rw (le-leb 1 h (omega arith)) (ap Some (omega arith))
sum_height (after m plus_sign) xs b h e is = height_push xs item.Add h e ∙ two_less b h is
sum_height (after m minus_sign) xs b h e is = height_push xs item.Subtract h e ∙ two_less b h is

-- the items of a product and of a sum, with the operation that ends them
pub product_items_are : (names : List (List ℕ)) (l : ProductLead) (w : Power) →
    product_lead_items names l ++ (postfix (power_tree names w) ++ product_items (mark_of_product l)) ≡ postfix (product_tree names (product_with l w))
product_items_are names bare w = append-nil (postfix (power_tree names w))
product_items_are names (by p) w = refl
product_items_are names (divided p at) w = refl

pub sum_items_are : (names : List (List ℕ)) (l : SumLead) (p : Product) →
    sum_lead_items names l ++ (postfix (product_tree names p) ++ sum_items (mark_of_sum l)) ≡ postfix (sum_tree names (sum_ending l p))
sum_items_are names empty p = append-nil (postfix (product_tree names p))
sum_items_are names (lone plus_sign) p = append-nil (postfix (product_tree names p))
sum_items_are names (lone minus_sign) p = refl
sum_items_are names (after m plus_sign) p = refl
sum_items_are names (after m minus_sign) p = refl

-- of a product, behind what comes before it
pub frame_product : (names : List (List ℕ)) (xs : List Item) (f : Frame) (w : Power) →
    (xs ++ (frame_items names f ++ postfix (power_tree names w))) ++ product_items (mark_of_product f.product)
    ≡ xs ++ (sum_lead_items names f.sum ++ postfix (product_tree names (product_with f.product w)))
frame_product names xs f w =
    let same : (xs ++ (frame_items names f ++ postfix (power_tree names w))) ++ product_items (mark_of_product f.product)
    ≡ xs ++ (sum_lead_items names f.sum ++ (product_lead_items names f.product ++ (postfix (power_tree names w) ++ product_items (mark_of_product f.product)))) = simp append_assoc in
    same ∙ ap (λ q. xs ++ (sum_lead_items names f.sum ++ q)) (product_items_are names f.product w)

-- and of a sum
pub frame_sum : (names : List (List ℕ)) (xs : List Item) (f : Frame) (w : Power) →
    (xs ++ (frame_items names f ++ postfix (power_tree names w))) ++ (product_items (mark_of_product f.product) ++ sum_items (mark_of_sum f.sum))
    ≡ xs ++ postfix (sum_tree names (sum_with f w))
frame_sum names xs f w =
    let same : (xs ++ (sum_lead_items names f.sum ++ postfix (product_tree names (product_with f.product w)))) ++ sum_items (mark_of_sum f.sum)
    ≡ xs ++ (sum_lead_items names f.sum ++ (postfix (product_tree names (product_with f.product w)) ++ sum_items (mark_of_sum f.sum))) = simp append_assoc in
    sym (append_assoc (xs ++ (frame_items names f ++ postfix (power_tree names w))) (product_items (mark_of_product f.product)) (sum_items (mark_of_sum f.sum)))
    ∙ ap (λ q. q ++ sum_items (mark_of_sum f.sum)) (frame_product names xs f w)
    ∙ same
    ∙ ap (λ q. xs ++ q) (sum_items_are names f.sum (product_with f.product w))

pub frame_product_height : (f : Frame) (xs : List Item) (b : ℕ) → height_of xs ≡ Some (b + (frame_height f + 1)) →
    height_of (xs ++ product_items (mark_of_product f.product)) ≡ Some (b + sum_lead_height f.sum + 1)
frame_product_height f xs b e = product_height f.product xs (b + sum_lead_height f.sum) (b + (frame_height f + 1)) e (omega arith)

pub frame_sum_height : (f : Frame) (xs : List Item) (b : ℕ) → height_of xs ≡ Some (b + (frame_height f + 1)) →
    height_of (xs ++ (product_items (mark_of_product f.product) ++ sum_items (mark_of_sum f.sum))) ≡ Some (b + 1)
frame_sum_height f xs b e =
    ap height_of (sym (append_assoc xs (product_items (mark_of_product f.product)) (sum_items (mark_of_sum f.sum))))
    ∙ sum_height f.sum (xs ++ product_items (mark_of_product f.product)) b (b + sum_lead_height f.sum + 1) (frame_product_height f xs b e) refl

-- the mode behind a power
pub behind_is : (f : Frame) (w : Power) → (b : Bool) × (mode_of (behind f w) ≡ mode.Behind b)
behind_is f (plain a) = (true, refl)
behind_is f (raised a ds) = (false, refl)

pub sign_behind : (m : Mode) (x b : Bool) (old new : Reader) → m ≡ mode.Behind x → HasSign m b old new → HasSign (mode.Behind x) b old new
sign_behind m x b old new e h = subst (λ q. HasSign q b old new) e h

-- the first sign
pub performs_first : (names : List (List ℕ)) (outer : List Frame) (n : ℕ) (old new : Reader) (s : Sign) (b : Bool) →
    mark_of_sum (lone s) ≡ first_mark b → Shows names (at_place outer (before_atom true new_frame)) n old →
    HasSign old.mode b old new → Shows names (at_place outer (before_atom false (record { sum = lone s; product = bare }))) (n + 1) new
performs_first names outer n old new s b is old_shows done =
    let h = subst (λ q. HasSign q b old new) old_shows.mode done in
    record {
      mode = h.mode;
      level = h.level ∙ ap (λ q. record { sum = q; product = product_mark.Nothing }) (sym is);
      outer = h.outer ∙ old_shows.outer;
      items = h.items ∙ old_shows.items;
      height = ap height_of h.items ∙ old_shows.height;
      depth = old_shows.depth;
      signs = h.signs ∙ ap (λ q. q + 1) old_shows.signs;
    }

pub performs_next : (names : List (List ℕ)) (outer : List Frame) (n : ℕ) (old new : Reader) (f : Frame) (w : Power) (s : Sign) (b : Bool) →
    mark_of_sum (after (sum_with f w) s) ≡ next_mark b → Shows names (at_place outer (behind f w)) n old →
    HasSign old.mode b old new → Shows names (at_place outer (before_atom false (record { sum = after (sum_with f w) s; product = bare }))) (n + 1) new
performs_next names outer n old new f w s b is shows done =
    let at = behind_is f w in
    let h = sign_behind old.mode at.0 b old new (shows.mode ∙ at.1) done in
    let marks : old.items.items ++ (product_items old.level.product ++ sum_items old.level.sum) ≡ (outer_items names outer ++ (frame_items names f ++ postfix (power_tree names w))) ++ (product_items (mark_of_product f.product) ++ sum_items (mark_of_sum f.sum)) =
    ap (λ q. q ++ (product_items old.level.product ++ sum_items old.level.sum)) shows.items
    ∙ ap (λ (l : Level). (outer_items names outer ++ (frame_items names f ++ postfix (power_tree names w))) ++ (product_items l.product ++ sum_items l.sum)) shows.level in
    let items : new.items.items ≡ outer_items names outer ++ postfix (sum_tree names (sum_with f w)) = h.items ∙ marks ∙ frame_sum names (outer_items names outer) f w in
    let height : height_of (old.items.items ++ (product_items (mark_of_product f.product) ++ sum_items (mark_of_sum f.sum))) ≡ Some (outer_height outer + 1) =
    frame_sum_height f old.items.items (outer_height outer) shows.height in
    record {
      mode = h.mode;
      level = h.level ∙ ap (λ q. record { sum = q; product = product_mark.Nothing }) (sym is);
      outer = h.outer ∙ shows.outer;
      items = items ∙ ap (λ q. outer_items names outer ++ q) (sym (append-nil (postfix (sum_tree names (sum_with f w)))));
      height = ap height_of (h.items ∙ ap (λ (l : Level). old.items.items ++ (product_items l.product ++ sum_items l.sum)) shows.level) ∙ height;
      depth = shows.depth;
      signs = h.signs ∙ ap (λ q. q + 1) shows.signs;
    }

pub performs_factor : (names : List (List ℕ)) (outer : List Frame) (n : ℕ) (old new : Reader) (f : Frame) (w : Power) (l : ProductLead) →
    product_lead_items names l ≡ postfix (product_tree names (product_with f.product w)) → product_lead_height l ≡ 1 → Shows names (at_place outer (behind f w)) n old →
    HasDone (action.Factor (mark_of_product l)) old new → Shows names (at_place outer (before_atom false (record { sum = f.sum; product = l }))) (n + 1) new
performs_factor names outer n old new f w l is one shows h =
    let marks : old.items.items ++ product_items old.level.product ≡ (outer_items names outer ++ (frame_items names f ++ postfix (power_tree names w))) ++ product_items (mark_of_product f.product) =
    ap (λ q. q ++ product_items old.level.product) shows.items
    ∙ ap (λ (l : Level). (outer_items names outer ++ (frame_items names f ++ postfix (power_tree names w))) ++ product_items l.product) shows.level in
    let height : height_of (old.items.items ++ product_items (mark_of_product f.product)) ≡ Some (outer_height outer + sum_lead_height f.sum + 1) =
    frame_product_height f old.items.items (outer_height outer) shows.height in
    record {
      mode = h.mode;
      level = h.level ∙ ap (λ (q : Level). record { sum = q.sum; product = mark_of_product l }) shows.level;
      outer = h.outer ∙ shows.outer;
      items = h.items ∙ marks ∙ frame_product names (outer_items names outer) f w ∙ ap (λ q. outer_items names outer ++ (sum_lead_items names f.sum ++ q)) (sym is);
      height = ap height_of (h.items ∙ ap (λ (l : Level). old.items.items ++ product_items l.product) shows.level) ∙ height ∙ ap Some (omega (arith, one));
      depth = shows.depth;
      signs = h.signs ∙ ap (λ q. q + 1) shows.signs;
    }

pub performs_closing : (names : List (List ℕ)) (g : Frame) (outer : List Frame) (n : ℕ) (old new : Reader) (f : Frame) (w : Power) →
    Shows names (at_place (g ∷ outer) (behind f w)) n old → HasDone action.Close old new →
    Shows names (at_place outer (behind g (plain (group (sum_with f w))))) n new
performs_closing names g outer n old new f w shows done =
    let h = done (levels_of outer) (level_of g) shows.outer in
    let marks : old.items.items ++ (product_items old.level.product ++ sum_items old.level.sum) ≡ ((outer_items names outer ++ frame_items names g) ++ (frame_items names f ++ postfix (power_tree names w))) ++ (product_items (mark_of_product f.product) ++ sum_items (mark_of_sum f.sum)) =
    ap (λ q. q ++ (product_items old.level.product ++ sum_items old.level.sum)) shows.items
    ∙ ap (λ (l : Level). ((outer_items names outer ++ frame_items names g) ++ (frame_items names f ++ postfix (power_tree names w))) ++ (product_items l.product ++ sum_items l.sum)) shows.level in
    let height : height_of (old.items.items ++ (product_items (mark_of_product f.product) ++ sum_items (mark_of_sum f.sum))) ≡ Some (outer_height outer + frame_height g + 1) =
    frame_sum_height f old.items.items (outer_height outer + frame_height g) shows.height in
    record {
      mode = h.mode;
      level = h.level;
      outer = h.outer;
      items = h.items ∙ marks ∙ frame_sum names (outer_items names outer ++ frame_items names g) f w ∙ append_assoc (outer_items names outer) (frame_items names g) (postfix (sum_tree names (sum_with f w)));
      height = ap height_of (h.items ∙ ap (λ (l : Level). old.items.items ++ (product_items l.product ++ sum_items l.sum)) shows.level) ∙ height ∙ ap Some (omega arith);
      depth = omega (arith, shows.depth);
      signs = h.signs ∙ shows.signs;
    }

-- an operand
pub performs_operand : (names : List (List ℕ)) (outer : List Frame) (n : ℕ) (old new : Reader) (b : Bool) (f : Frame) (a : Atom) (i : Item) →
    postfix (atom_tree names a) ≡ i ∷ [] → ((xs : List Item) (h : ℕ) → height_of xs ≡ Some h → h < 67 → height_of (xs ++ i ∷ []) ≡ Some (h + 1)) →
    Shows names (at_place outer (before_atom b f)) n old → HasDone (action.Operand i) old new →
    Shows names (at_place outer (behind f (plain a))) n new
performs_operand names outer n old new b f a i is grows shows h = record {
  mode = h.mode;
  level = h.level ∙ shows.level;
  outer = h.outer ∙ shows.outer;
  items = h.items ∙ ap (λ q. q ++ i ∷ []) shows.items ∙ append_assoc (outer_items names outer) (frame_items names f) (i ∷ [])
      ∙ ap (λ q. outer_items names outer ++ (frame_items names f ++ q)) (sym is);
  height = ap height_of h.items ∙ grows old.items.items (outer_height outer + frame_height f) shows.height (omega (arith, outer_low outer, frame_low f, shows.depth)) ∙ ap Some (omega arith);
  depth = shows.depth;
  signs = h.signs ∙ shows.signs;
}

pub performs_exponent : (names : List (List ℕ)) (outer : List Frame) (n : ℕ) (old new : Reader) (f : Frame) (a : Atom) (ds : List ℕ) →
    Shows names (at_place outer (before_exponent f a)) n old → HasDone (action.Exponent (number_of ds)) old new →
    Shows names (at_place outer (behind f (raised a ds))) n new
performs_exponent names outer n old new f a ds shows h =
    let same : (outer_items names outer ++ (frame_items names f ++ postfix (atom_tree names a))) ++ item.Power (number_of ds) ∷ []
    ≡ outer_items names outer ++ (frame_items names f ++ (postfix (atom_tree names a) ++ item.Power (number_of ds) ∷ [])) = simp append_assoc in
    record {
      mode = h.mode;
      level = h.level ∙ shows.level;
      outer = h.outer ∙ shows.outer;
      items = h.items ∙ ap (λ q. q ++ item.Power (number_of ds) ∷ []) shows.items ∙ same;
      height = ap height_of h.items ∙ power_height old.items.items (number_of ds) (outer_height outer + (frame_height f + 1)) shows.height (omega arith);
      depth = shows.depth;
      signs = h.signs ∙ shows.signs;
    }

pub performs_opening : (names : List (List ℕ)) (outer : List Frame) (n : ℕ) (old new : Reader) (b : Bool) (f : Frame) → length outer < 32 →
    Shows names (at_place outer (before_atom b f)) n old → HasDone action.Open old new →
    Shows names (at_place (f ∷ outer) (before_atom true new_frame)) n new
performs_opening names outer n old new b f low shows h = record {
  mode = h.mode;
  level = h.level;
  outer = h.outer ∙ ap (λ q. q ++ old.level ∷ []) shows.outer ∙ ap (λ q. levels_of outer ++ q ∷ []) shows.level;
  items = h.items ∙ shows.items ∙ sym (append-nil (outer_items names outer ++ frame_items names f));
  height = ap height_of h.items ∙ shows.height ∙ ap Some (omega arith);
  depth = omega arith;
  signs = h.signs ∙ shows.signs;
}

pub performs_raise : (names : List (List ℕ)) (outer : List Frame) (n : ℕ) (old new : Reader) (f : Frame) (a : Atom) →
    Shows names (at_place outer (behind f (plain a))) n old → HasDone action.Raise old new →
    Shows names (at_place outer (before_exponent f a)) (n + 1) new
performs_raise names outer n old new f a shows h = record {
  mode = h.mode;
  level = h.level ∙ shows.level;
  outer = h.outer ∙ shows.outer;
  items = h.items ∙ shows.items;
  height = ap height_of h.items ∙ shows.height;
  depth = shows.depth;
  signs = h.signs ∙ ap (λ q. q + 1) shows.signs;
}
