-- The lines of a text are read back one by one.
use Rattle.std.proofs.Common.{◌≡◌, ◌≢◌, ℕ, List, [], ◌∷◌, ◌++◌, length, refl, sym, ap, ◌∙◌, arith, append_assoc, codes}
use Rattle.std.specs.Fmt.{signed_decimal}
use Rattle.std.specs.List.{flat_map, join_by, AllByRecursion}
use Rattle.std.proofs.lemmas.List.{append_cancel_left}
use Rattle.integral_index.specs.Integral.{Integral}
use Rattle.sparse_row.specs.Row.{Row}
use Rattle.table_text.specs.Pieces.{descending_terms, integral_text, line_text, name_of, sum_text}
use Rattle.table_text.specs.Laws.{AreFamilyNames, IsNamed}
use Rattle.table_text.proofs.Cutting.{Lacks, cut}
use Rattle.table_text.proofs.ReadPieces.{IsWritten, lacks_91, lacks_blank, same_integral, same_sum, sum_without_end}

module _ (names : List (List ℕ)) (are : AreFamilyNames names) where
  abbrev name : ℕ → List ℕ
  name = name_of names

  abbrev text_of : Integral → List ℕ
  text_of x = integral_text (name x.family) x

  -- the integral of a line and the terms of its row have texts that can be read
  pub record IsLine (form : Integral → Row) (x : Integral) : Type 0 where
    pub named : IsNamed names x
    pub terms : AllByRecursion (IsWritten names are) (descending_terms (form x))

  abbrev line : (Integral → Row) → Integral → List ℕ
  line form x = line_text name x (form x)

  -- a line and what comes behind it, cut behind the integral and at the end of the line
  abbrev behind : List (Integral × ℕ) → List ℕ → List ℕ
  behind terms rest = codes " = " ++ (sum_text name terms ++ (10 ∷ rest))

  line_and : (form : Integral → Row) (x : Integral) (rest : List ℕ) → line form x ++ rest ≡ text_of x ++ behind (descending_terms (form x)) rest
  line_and form x rest =
      append_assoc (text_of x) _ rest
      ∙ ap (λ tail. text_of x ++ (codes " = " ++ tail)) (append_assoc (sum_text name (descending_terms (form x))) (codes "\n") rest)

  pub record AreSameLines (form other : Integral → Row) (x y : Integral) (s t : List ℕ) : Type 0 where
    pub integral : x ≡ y
    pub terms : descending_terms (form x) ≡ descending_terms (other y)
    pub rest : s ≡ t

  same_line : (form other : Integral → Row) (x y : Integral) (s t : List ℕ) → IsLine form x → IsLine other y → line form x ++ s ≡ line other y ++ t → AreSameLines form other x y s t
  same_line form other x y s t lx ly e =
      let ts = descending_terms (form x) in
      let us = descending_terms (other y) in
      let first = cut 32 (text_of x) (text_of y) (behind ts s) (behind us t) (lacks_blank names are x lx.named) (lacks_blank names are y ly.named) refl refl
      (sym (line_and form x s) ∙ e ∙ line_and other y t) in
      let second = cut 10 (sum_text name ts) (sum_text name us) (10 ∷ s) (10 ∷ t) (sum_without_end names are ts lx.terms) (sum_without_end names are us ly.terms) refl refl
      (append_cancel_left (codes " = ") _ _ first.1) in
      record {
        integral = same_integral names are x y lx.named ly.named first.0;
        terms = same_sum names are ts us lx.terms ly.terms second.0;
        rest = append_cancel_left (10 ∷ []) _ _ second.1;
      }

  word_without_bracket : Lacks 91 (codes "masters")
  word_without_bracket = (omega arith, (omega arith, (omega arith, (omega arith, (omega arith, (omega arith, (omega arith, tt)))))))

  word_without_blank : Lacks 32 (codes "masters")
  word_without_blank = (omega arith, (omega arith, (omega arith, (omega arith, (omega arith, (omega arith, (omega arith, tt)))))))

  -- the line that counts the masters is no line of an integral
  no_line : (form : Integral → Row) (x : Integral) (s m : List ℕ) → IsLine form x → codes "masters " ++ m ≢ line form x ++ s
  no_line form x s m lx e =
      let first = cut 32 (codes "masters") (text_of x) (32 ∷ m) (behind (descending_terms (form x)) s) word_without_blank (lacks_blank names are x lx.named) refl refl (e ∙ line_and form x s) in
      let second = cut 91 (codes "masters") (name x.family) [] _ word_without_bracket (lacks_91 names are x.family lx.named.family) tt refl first.0 in
      let h : 0 ≡ length (91 ∷ ((join_by signed_decimal (codes ",") x.indices) ++ codes "]")) = ap length second.1 in
      omega (arith, h)

  abbrev lines : (Integral → Row) → List Integral → List ℕ
  lines form xs = flat_map (line form) xs

  -- all lines before the one that counts the masters
  pub record AreSameTexts (form other : Integral → Row) (xs ys : List Integral) : Type 0 where
    pub integrals : xs ≡ ys
    pub terms : AllByRecursion (λ x. descending_terms (form x) ≡ descending_terms (other x)) xs

  pub same_lines : (form other : Integral → Row) (xs ys : List Integral) (m n : List ℕ) → AllByRecursion (IsLine form) xs → AllByRecursion (IsLine other) ys → lines form xs ++ (codes "masters " ++ m) ≡ lines other ys ++ (codes "masters " ++ n) → AreSameTexts form other xs ys
  same_lines form other [] [] m n lx ly e = record { integrals = refl; terms = tt }
  same_lines form other [] (y ∷ ys) m n lx ly e =
      absurd (no_line other y (lines other ys ++ (codes "masters " ++ n)) m ly.0 (e ∙ append_assoc (line other y) (lines other ys) (codes "masters " ++ n)))
  same_lines form other (x ∷ xs) [] m n lx ly e =
      absurd (no_line form x (lines form xs ++ (codes "masters " ++ m)) n lx.0 (sym e ∙ append_assoc (line form x) (lines form xs) (codes "masters " ++ m)))
  same_lines form other (x ∷ xs) (y ∷ ys) m n lx ly e =
      let first = same_line form other x y _ _ lx.0 ly.0 (sym (append_assoc (line form x) (lines form xs) (codes "masters " ++ m)) ∙ e ∙ append_assoc (line other y) (lines other ys) (codes "masters " ++ n)) in
      let later = same_lines form other xs ys m n lx.1 ly.1 first.rest in
      record {
        integrals = λ i. first.integral i ∷ later.integrals i;
        terms = (first.terms ∙ ap (λ z. descending_terms (other z)) (sym first.integral), later.terms);
      }
