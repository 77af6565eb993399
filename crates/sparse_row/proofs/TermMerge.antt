-- The merge of two descending lists: the sum of the one and a multiple of the other, as far as they are read.
use Rattle.std.proofs.Common.{◌≡◌, ◌≢◌, ◌==◌, ℕ, ◌+◌, ◌*◌, ◌%◌, ◌<◌, ◌≤◌, Bool, true, false, cond, List, [], ◌∷◌, ◌++◌, length, get_or, take, drop, refl, sym, ap, subst, ◌∙◌, ◌⊎◌, inl, inr, arith, add-zero, append-nil, append_assoc, add_assoc, mul_comm, take-append-drop}
use Rattle.std.proofs.Math.Nat.{mod-add-mod, add-mod-mod, mod-eq_of_lt, mod-lt}
use Rattle.std.specs.List.{AllByRecursion, flat_map}
use Rattle.std.specs.Ordering.{eq_by_cmp}
use Rattle.std.specs.declared.cmp.Ordering.TheVariants.{Less, Equal, Greater}
use Rattle.std.proofs.lemmas.Bool.Decides.{nat_tests}
use Rattle.std.proofs.lemmas.List.{take_more, drop_more, drop_all}
use Rattle.integral_index.specs.declared.Order.{Order}
use Rattle.integral_index.specs.Integral.{Integral}
use Rattle.integral_index.specs.Order.{by_fields, compare}
use Rattle.integral_index.proofs.Orders.{compare-IsAntisymmetric}
use Rattle.sparse_row.specs.declared.Term.{Term}
use Rattle.sparse_row.specs.Terms.{coefficient_at, total_at, scaled_term, summed_term, kept_term}
use Rattle.sparse_row.proofs.TermLists.{Greater-from_Less, total_at-append, total_at-one, each-weaker, each-append, AllUnder, AllUnder-lower, AllOver, Descends-push, Descends-append}
use Rattle.sparse_row.proofs.RowValues.{IsTerms, total_at-below}

-- ---- numbers modulo p

sum_mod : (p a b c : ℕ) → a % p ≡ b % p → (a + c) % p ≡ (b + c) % p
sum_mod p a b c e = sym (mod-add-mod a p c) ∙ ap (λ n. (n + c) % p) e ∙ mod-add-mod b p c

product_mod : (p n c f : ℕ) → (n + (c * f) % p) % p ≡ (n + f * c) % p
product_mod p n c f = add-mod-mod n (c * f) p ∙ ap (λ m. (n + m) % p) (mul_comm c f)

zero_both : (b : Bool) → ◌≡◌ {A = ℕ} (cond b 0 0) 0
zero_both true = refl
zero_both false = refl

-- ---- the merge

IsTerms-tail : (p : ℕ) (order : Order) (t : Term) (ts : List Term) → IsTerms p order (t ∷ ts) → IsTerms p order ts
IsTerms-tail p order t ts h = record { descend = h.descend.1; no_zero = h.no_zero.1; below = h.below.1 }

-- each term of a list is above each of another
abbrev Above : Order → List Term → List Term → Type 0
Above order ts us = AllByRecursion (λ t. AllUnder order t.integral us) ts

-- of each list a part is read; `sum` has the sum of what is read, and all of it is above what is left
pub record Merging (p : ℕ) (order : Order) (factor : ℕ) (sum read left other_read other_left : List Term) : Type 0 where
  pub terms : IsTerms p order sum
  pub left_terms : IsTerms p order left
  pub other_terms : IsTerms p order other_left
  pub above_left : Above order sum left
  pub above_other : Above order sum other_left
  pub total : (x : Integral) → total_at x sum % p ≡ (total_at x read + factor * total_at x other_read) % p

module _ (p : ℕ) (order : Order) (factor : ℕ) where
  pub Merging-none : (ts us : List Term) → IsTerms p order ts → IsTerms p order us → Merging p order factor [] [] ts [] us
  Merging-none ts us left right = record {
    terms = record { descend = tt; no_zero = tt; below = tt };
    left_terms = left;
    other_terms = right;
    above_left = tt;
    above_other = tt;
    total = λ x. let none : 0 ≡ 0 + factor * 0 = omega arith in ap (λ n. n % p) none;
  }

  pushed_terms : (sum : List Term) (y : Term) → IsTerms p order sum → AllOver order y.integral sum → y.coefficient ≢ 0 → y.coefficient < p → IsTerms p order (sum ++ y ∷ [])
  pushed_terms sum y h over nonzero below = record {
    descend = Descends-push order sum y h.descend over;
    no_zero = each-append (λ t. t.coefficient ≢ 0) sum (y ∷ []) h.no_zero (nonzero, tt);
    below = each-append (λ t. t.coefficient < p) sum (y ∷ []) h.below (below, tt);
  }

  -- y comes next: it is above what is then left, and adds what is then read beyond what was
  module _ (sum read left other_read other_left : List Term) (y : Term) (read' left' other_read' other_left' : List Term) (m : Merging p order factor sum read left other_read other_left) (over : AllOver order y.integral sum) (below : y.coefficient < p) (left_terms : IsTerms p order left') (other_terms : IsTerms p order other_left') (above_left : Above order sum left') (above_other : Above order sum other_left') (y_above_left : AllUnder order y.integral left') (y_above_other : AllUnder order y.integral other_left') (adds : (x : Integral) → (total_at x read + factor * total_at x other_read + coefficient_at x y) % p ≡ (total_at x read' + factor * total_at x other_read') % p) where
    Merging-push : y.coefficient ≢ 0 → Merging p order factor (sum ++ y ∷ []) read' left' other_read' other_left'
    Merging-push nonzero = record {
      terms = pushed_terms sum y m.terms over nonzero below;
      left_terms = left_terms;
      other_terms = other_terms;
      above_left = each-append (λ t. AllUnder order t.integral left') sum (y ∷ []) above_left (y_above_left, tt);
      above_other = each-append (λ t. AllUnder order t.integral other_left') sum (y ∷ []) above_other (y_above_other, tt);
      total = λ x.
          ap (λ n. n % p) (total_at-append x sum (y ∷ []) ∙ ap (λ n. total_at x sum + n) (total_at-one x y))
          ∙ sum_mod p (total_at x sum) (total_at x read + factor * total_at x other_read) (coefficient_at x y) (m.total x) ∙ adds x;
    }

    Merging-pass : y.coefficient ≡ 0 → Merging p order factor sum read' left' other_read' other_left'
    Merging-pass zero = record {
      terms = m.terms;
      left_terms = left_terms;
      other_terms = other_terms;
      above_left = above_left;
      above_other = above_other;
      total = λ x.
          let nothing : coefficient_at x y ≡ 0 = ap (λ n. cond (eq_by_cmp by_fields x y.integral) n 0) zero ∙ zero_both (eq_by_cmp by_fields x y.integral) in
          m.total x ∙ ap (λ n. n % p) (sym (ap (λ n. total_at x read + factor * total_at x other_read + n) nothing ∙ add-zero _)) ∙ adds x;
    }

    Merging-kept : Merging p order factor (sum ++ kept_term y) read' left' other_read' other_left'
    Merging-kept = go (y.coefficient == 0) refl
      where
        go : (b : Bool) → (y.coefficient == 0) ≡ b → Merging p order factor (sum ++ cond b [] (y ∷ [])) read' left' other_read' other_left'
        go true e = subst (λ s. Merging p order factor s read' left' other_read' other_left') (sym (append-nil sum)) (Merging-pass (grind (arith, nat_tests)))
        go false e = Merging-push (λ zero. grind (arith, nat_tests))

  -- ---- the steps

  all_over_head : (sum : List Term) (t : Term) (ts : List Term) → Above order sum (t ∷ ts) → AllOver order t.integral sum
  all_over_head sum t ts h = each-weaker (λ s g. g.0) sum h

  above_tail : (sum : List Term) (t : Term) (ts : List Term) → Above order sum (t ∷ ts) → Above order sum ts
  above_tail sum t ts h = each-weaker (λ s g. g.1) sum h

  coefficient_below : (t : Term) (ts : List Term) → IsTerms p order (t ∷ ts) → 0 < p
  coefficient_below t ts h = omega (arith, h.below.0)

  -- a term of the first list comes next
  pub Merging-left : (sum read : List Term) (t : Term) (left other_read other_left : List Term) → AllUnder order t.integral other_left → Merging p order factor sum read (t ∷ left) other_read other_left → Merging p order factor (sum ++ t ∷ []) (read ++ t ∷ []) left other_read other_left
  Merging-left sum read t left other_read other_left under m =
      Merging-push sum read (t ∷ left) other_read other_left t (read ++ t ∷ []) left other_read other_left m
      (all_over_head sum t left m.above_left) m.left_terms.below.0 (IsTerms-tail p order t left m.left_terms) m.other_terms
      (above_tail sum t left m.above_left) m.above_other m.left_terms.descend.0 under
      (λ x. ap (λ n. n % p) (omega (arith, total_at-append x read (t ∷ []), total_at-one x t))) m.left_terms.no_zero.0

  scaled_adds : (x : Integral) (u : Term) (n : ℕ) → (n + coefficient_at x (scaled_term p factor u)) % p ≡ (n + factor * coefficient_at x u) % p
  scaled_adds x u n = go (eq_by_cmp by_fields x u.integral)
    where
      go : (b : Bool) → (n + cond b ((u.coefficient * factor) % p) 0) % p ≡ (n + factor * cond b u.coefficient 0) % p
      go true = product_mod p n u.coefficient factor
      go false = ap (λ k. (n + k) % p) (let e : 0 ≡ factor * 0 = omega arith in e)

  -- a term of the other list comes next
  pub Merging-other : (sum read left other_read : List Term) (u : Term) (other_left : List Term) → AllUnder order u.integral left → Merging p order factor sum read left other_read (u ∷ other_left) → Merging p order factor (sum ++ kept_term (scaled_term p factor u)) read left (other_read ++ u ∷ []) other_left
  Merging-other sum read left other_read u other_left under m =
      Merging-kept sum read left other_read (u ∷ other_left) (scaled_term p factor u) read left (other_read ++ u ∷ []) other_left m
      (all_over_head sum u other_left m.above_other) (mod-lt _ (coefficient_below u other_left m.other_terms)) m.left_terms (IsTerms-tail p order u other_left m.other_terms)
      m.above_left (above_tail sum u other_left m.above_other) under m.other_terms.descend.0
      (λ x.
      scaled_adds x u (total_at x read + factor * total_at x other_read)
      ∙ ap (λ n. n % p) (let e : total_at x (other_read ++ u ∷ []) ≡ total_at x other_read + coefficient_at x u = total_at-append x other_read (u ∷ []) ∙ ap (λ n. total_at x other_read + n) (total_at-one x u) in sum_of_parts (total_at x read) factor (total_at x other_read) (coefficient_at x u) (total_at x (other_read ++ u ∷ [])) e))
    where
      sum_of_parts : (a f b c d : ℕ) → d ≡ b + c → a + f * b + f * c ≡ a + f * d
      sum_of_parts a f b c d e = rw e (omega arith)

  summed_adds : (x : Integral) (t u : Term) (n : ℕ) → t.integral ≡ u.integral → (n + coefficient_at x (summed_term p factor t u)) % p ≡ (n + coefficient_at x t + factor * coefficient_at x u) % p
  summed_adds x t u n same =
      go (eq_by_cmp by_fields x t.integral)
      ∙ ap (λ b. (n + coefficient_at x t + factor * cond b u.coefficient 0) % p) (ap (λ y. eq_by_cmp by_fields x y) same)
    where
      go : (b : Bool) → (n + cond b ((t.coefficient + (u.coefficient * factor) % p) % p) 0) % p ≡ (n + cond b t.coefficient 0 + factor * cond b u.coefficient 0) % p
      go true =
          add-mod-mod n (t.coefficient + (u.coefficient * factor) % p) p ∙ ap (λ k. k % p) (sym (add_assoc n t.coefficient ((u.coefficient * factor) % p)))
          ∙ product_mod p (n + t.coefficient) u.coefficient factor
      go false = ap (λ k. k % p) (let e : n + 0 ≡ n + 0 + factor * 0 = omega arith in e)

  -- a term of each list, of one integral, comes next
  pub Merging-both : (sum read : List Term) (t : Term) (left other_read : List Term) (u : Term) (other_left : List Term) → compare order t.integral u.integral ≡ Equal → Merging p order factor sum read (t ∷ left) other_read (u ∷ other_left) → Merging p order factor (sum ++ kept_term (summed_term p factor t u)) (read ++ t ∷ []) left (other_read ++ u ∷ []) other_left
  Merging-both sum read t left other_read u other_left e m =
      let same = compare-IsAntisymmetric order t.integral u.integral e in
      Merging-kept sum read (t ∷ left) other_read (u ∷ other_left) (summed_term p factor t u) (read ++ t ∷ []) left (other_read ++ u ∷ []) other_left m
      (all_over_head sum t left m.above_left) (mod-lt _ (coefficient_below t left m.left_terms)) (IsTerms-tail p order t left m.left_terms) (IsTerms-tail p order u other_left m.other_terms)
      (above_tail sum t left m.above_left) (above_tail sum u other_left m.above_other) m.left_terms.descend.0 (subst (λ x. AllUnder order x other_left) (sym same) m.other_terms.descend.0)
      (λ x. summed_adds x t u (total_at x read + factor * total_at x other_read) same
      ∙ ap (λ n. n % p) (sum_of_parts (total_at x read) (coefficient_at x t) (total_at x (read ++ t ∷ [])) factor (total_at x other_read) (coefficient_at x u) (total_at x (other_read ++ u ∷ [])) (total_at-append x read (t ∷ []) ∙ ap (λ n. total_at x read + n) (total_at-one x t)) (total_at-append x other_read (u ∷ []) ∙ ap (λ n. total_at x other_read + n) (total_at-one x u))))
    where
      sum_of_parts : (a s a' f b c b' : ℕ) → a' ≡ a + s → b' ≡ b + c → a + f * b + s + f * c ≡ a' + f * b'
      sum_of_parts a s a' f b c b' e g = rw (e, g) (omega arith)

  above_none : (ts : List Term) → Above order ts []
  above_none [] = tt
  above_none (t ∷ ts) = (tt, above_none ts)

  -- what is left of one list, where nothing is left of the other or all of it is taken
  pub Merging-left_rest : (sum read left other_read other_left : List Term) → (left ≡ []) ⊎ (other_left ≡ []) → Merging p order factor sum read left other_read other_left → Merging p order factor (sum ++ left) (read ++ left) [] other_read other_left
  Merging-left_rest sum read left other_read [] one m = record {
    terms = record {
      descend = Descends-append order sum left m.terms.descend m.left_terms.descend m.above_left;
      no_zero = each-append (λ t. t.coefficient ≢ 0) sum left m.terms.no_zero m.left_terms.no_zero;
      below = each-append (λ t. t.coefficient < p) sum left m.terms.below m.left_terms.below;
    };
    left_terms = m.other_terms;
    other_terms = m.other_terms;
    above_left = above_none (sum ++ left);
    above_other = above_none (sum ++ left);
    total = λ x.
        ap (λ n. n % p) (total_at-append x sum left) ∙ sum_mod p (total_at x sum) (total_at x read + factor * total_at x other_read) (total_at x left) (m.total x)
        ∙ ap (λ n. n % p) (omega (arith, total_at-append x read left));
  }
  Merging-left_rest sum read [] other_read (u ∷ other_left) one m =
      subst (λ s. Merging p order factor s (read ++ []) [] other_read (u ∷ other_left)) (sym (append-nil sum))
      (subst (λ r. Merging p order factor sum r [] other_read (u ∷ other_left)) (sym (append-nil read)) m)
  Merging-left_rest sum read (t ∷ left) other_read (u ∷ other_left) one m = elim one [ inl e ↦ absurd (cc) | inr e ↦ absurd (cc) ]

  pub Merging-other_rest : (sum read other_read other_left : List Term) → Merging p order factor sum read [] other_read other_left → Merging p order factor (sum ++ flat_map (λ other. kept_term (scaled_term p factor other)) other_left) read [] (other_read ++ other_left) []
  Merging-other_rest sum read other_read [] m =
      subst (λ s. Merging p order factor s read [] (other_read ++ []) []) (sym (append-nil sum))
      (subst (λ r. Merging p order factor sum read [] r []) (sym (append-nil other_read)) m)
  Merging-other_rest sum read other_read (u ∷ other_left) m =
      let next = Merging-other_rest (sum ++ kept_term (scaled_term p factor u)) read (other_read ++ u ∷ []) other_left
      (Merging-other sum read [] other_read u other_left tt m) in
      subst (λ s. Merging p order factor s read [] (other_read ++ u ∷ other_left) []) (append_assoc sum (kept_term (scaled_term p factor u)) (flat_map (λ other. kept_term (scaled_term p factor other)) other_left))
      (subst (λ r. Merging p order factor ((sum ++ kept_term (scaled_term p factor u)) ++ flat_map (λ other. kept_term (scaled_term p factor other)) other_left) read [] r []) (append_assoc other_read (u ∷ []) other_left) next)

  -- at the end the sums are residues
  pub Merging-all : (sum read other_read : List Term) → 0 < p → Merging p order factor sum read [] other_read [] → (x : Integral) → total_at x sum ≡ (total_at x read + factor * total_at x other_read) % p
  Merging-all sum read other_read positive m x =
      sym (mod-eq_of_lt (total_at-below p order x sum positive m.terms.descend m.terms.below)) ∙ m.total x

  -- ---- the steps by places

  module _ (ts us : List Term) (i j : ℕ) (t u : Term) (sum : List Term) (within : i < length ts) (other_within : j < length us) (is : t ≡ get_or ts i t) (other_is : u ≡ get_or us j u) (m : Merging p order factor sum (take i ts) (drop i ts) (take j us) (drop j us)) where
    head : drop i ts ≡ t ∷ drop (i + 1) ts
    head = drop_more ts i t within ∙ ap (λ v. v ∷ drop (i + 1) ts) (sym is)

    other_head : drop j us ≡ u ∷ drop (j + 1) us
    other_head = drop_more us j u other_within ∙ ap (λ v. v ∷ drop (j + 1) us) (sym other_is)

    read : take (i + 1) ts ≡ take i ts ++ t ∷ []
    read = take_more ts i t within ∙ ap (λ v. take i ts ++ v ∷ []) (sym is)

    other_read : take (j + 1) us ≡ take j us ++ u ∷ []
    other_read = take_more us j u other_within ∙ ap (λ v. take j us ++ v ∷ []) (sym other_is)

    opened : Merging p order factor sum (take i ts) (t ∷ drop (i + 1) ts) (take j us) (u ∷ drop (j + 1) us)
    opened =
        subst (λ l. Merging p order factor sum (take i ts) (t ∷ drop (i + 1) ts) (take j us) l) other_head
        (subst (λ l. Merging p order factor sum (take i ts) l (take j us) (drop j us)) head m)

    pub Merging-Greater : compare order t.integral u.integral ≡ Greater → Merging p order factor (sum ++ t ∷ []) (take (i + 1) ts) (drop (i + 1) ts) (take j us) (drop j us)
    Merging-Greater e =
        let under : AllUnder order t.integral (u ∷ drop (j + 1) us) = (e, AllUnder-lower order t.integral u.integral (drop (j + 1) us) e opened.other_terms.descend.0) in
        let next = Merging-left sum (take i ts) t (drop (i + 1) ts) (take j us) (u ∷ drop (j + 1) us) under opened in
        subst (λ r. Merging p order factor (sum ++ t ∷ []) r (drop (i + 1) ts) (take j us) (drop j us)) (sym read)
        (subst (λ l. Merging p order factor (sum ++ t ∷ []) (take i ts ++ t ∷ []) (drop (i + 1) ts) (take j us) l) (sym other_head) next)

    pub Merging-Less : compare order t.integral u.integral ≡ Less → Merging p order factor (sum ++ kept_term (scaled_term p factor u)) (take i ts) (drop i ts) (take (j + 1) us) (drop (j + 1) us)
    Merging-Less e =
        let above = Greater-from_Less order t.integral u.integral e in
        let under : AllUnder order u.integral (t ∷ drop (i + 1) ts) = (above, AllUnder-lower order u.integral t.integral (drop (i + 1) ts) above opened.left_terms.descend.0) in
        let next = Merging-other sum (take i ts) (t ∷ drop (i + 1) ts) (take j us) u (drop (j + 1) us) under opened in
        subst (λ r. Merging p order factor (sum ++ kept_term (scaled_term p factor u)) (take i ts) (drop i ts) r (drop (j + 1) us)) (sym other_read)
        (subst (λ l. Merging p order factor (sum ++ kept_term (scaled_term p factor u)) (take i ts) l (take j us ++ u ∷ []) (drop (j + 1) us)) (sym head) next)

    pub Merging-Equal : compare order t.integral u.integral ≡ Equal → Merging p order factor (sum ++ kept_term (summed_term p factor t u)) (take (i + 1) ts) (drop (i + 1) ts) (take (j + 1) us) (drop (j + 1) us)
    Merging-Equal e =
        let next = Merging-both sum (take i ts) t (drop (i + 1) ts) (take j us) u (drop (j + 1) us) e opened in
        subst (λ r. Merging p order factor (sum ++ kept_term (summed_term p factor t u)) r (drop (i + 1) ts) (take (j + 1) us) (drop (j + 1) us)) (sym read)
        (subst (λ r. Merging p order factor (sum ++ kept_term (summed_term p factor t u)) (take i ts ++ t ∷ []) (drop (i + 1) ts) r (drop (j + 1) us)) (sym other_read) next)

  -- after the loop: what is left is taken
  pub Merging-rest : (ts us : List Term) (i j : ℕ) (sum : List Term) → (length ts ≤ i) ⊎ (length us ≤ j) → Merging p order factor sum (take i ts) (drop i ts) (take j us) (drop j us) → Merging p order factor ((sum ++ drop i ts) ++ flat_map (λ other. kept_term (scaled_term p factor other)) (drop j us)) ts [] us []
  Merging-rest ts us i j sum one m =
      let none : (drop i ts ≡ []) ⊎ (drop j us ≡ []) = elim one [ inl e ↦ inl (drop_all i ts e) | inr e ↦ inr (drop_all j us e) ] in
      let rest = Merging-left_rest sum (take i ts) (drop i ts) (take j us) (drop j us) none m in
      let all = Merging-other_rest (sum ++ drop i ts) (take i ts ++ drop i ts) (take j us) (drop j us) rest in
      subst (λ r. Merging p order factor ((sum ++ drop i ts) ++ flat_map (λ other. kept_term (scaled_term p factor other)) (drop j us)) r [] us []) (take-append-drop i ts)
      (subst (λ r. Merging p order factor ((sum ++ drop i ts) ++ flat_map (λ other. kept_term (scaled_term p factor other)) (drop j us)) (take i ts ++ drop i ts) [] r []) (take-append-drop j us) all)
