-- The integrals that rows show, gathered and sorted.
use Rattle.std.proofs.Common.{◌≡◌, ◌↔◌, ◌⊎◌, inl, inr, ℕ, ◌+◌, ◌<◌, ◌≤◌, List, [], ◌∷◌, ◌++◌, length, get_or, map, take, Contains, sym, ap, subst, ◌∙◌, arith}
use Rattle.std.specs.List.Sorted.{IsSorted, IsNonDecreasingBy, IsPartitionPoint}
use Rattle.std.specs.Ordering.{ordering_index}
use Rattle.std.specs.declared.cmp.Ordering.TheVariants.{Less, Equal, Greater}
use Rattle.std.proofs.lemmas.Bool.{cases_lt}
use Rattle.std.proofs.lemmas.Cmp.{tied_itself}
use Rattle.std.proofs.lemmas.List.{get_or-map, length-map, take_more}
use Rattle.std.proofs.lemmas.List.Elements.{Contains-append_left, Contains-append_right, Contains-append_cases, Contains-push, Contains-push_cases}
use Rattle.std.proofs.lemmas.List.Sorted.{searchable_from_sorted}
use Rattle.integral_index.specs.declared.Order.{Order}
use Rattle.integral_index.specs.Integral.{Integral}
use Rattle.integral_index.specs.Order.{compare}
use Rattle.integral_index.proofs.Orders.{compare-total, compare-IsAntisymmetric}
use Rattle.sparse_row.specs.declared.Term.{Term}
use Rattle.sparse_row.specs.Row.{Row, coefficient, Shows}
use Rattle.sparse_row.specs.Terms.{ArePushed, total_at}
use Rattle.sparse_row.proofs.RowValues.{total_at-place}
use Rattle.sparse_row.proofs.TermLists.{Descends-from_pairs}
use Rattle.sector_forward.specs.Elimination.{IsShownBySome}
use Rattle.sector_forward.proofs.Shown.{term_of_shown}
use Rattle.sector_machine.proofs.Lists.{Contains-none}

-- ---- the integrals of a row

-- the integrals that the row shows came to the others
abbrev pub HasGained : Row → List Integral → List Integral → Type 0
HasGained row old new = (x : Integral) → Contains new x ↔ (Contains old x ⊎ Shows row x)

pub gained_row : (row : Row) (old now : List Integral) → ArePushed row old now → HasGained row old now
gained_row row old now pushed x =
    let terms = pushed.terms in
    let integrals = map (λ (term : Term). term.integral) terms in
    let size : length integrals ≡ length terms = length-map terms (λ term. term.integral) in
    let none : Term = record { integral = x; coefficient = 0 } in (
      λ member.
          elim (Contains-append_cases old integrals x (subst (λ xs. Contains xs x) pushed.behind member)) [
            | inl first ↦ inl first
            | inr (k, h, is) ↦
                let here : (get_or terms k none).integral ≡ x = sym (get_or-map (λ (term : Term). term.integral) terms k none x (omega arith)) ∙ is in
                let at : coefficient row x ≡ (get_or terms k none).coefficient =
                pushed.coefficients x ∙ ap (λ y. total_at y terms) (sym here) ∙ total_at-place row.order terms k none (omega arith) (Descends-from_pairs row.order terms pushed.list.descend) in
                inr (λ e. pushed.list.no_zero k none (omega arith) (sym at ∙ e))
          ],
      λ either.
          subst (λ xs. Contains xs x) (sym pushed.behind) (elim either [
            | inl first ↦ Contains-append_left old integrals x first
            | inr shows ↦
                let found = term_of_shown x terms (λ e. shows (pushed.coefficients x ∙ e)) in
                Contains-append_right old integrals x (found.0, omega (arith, found.1, size), get_or-map (λ (term : Term). term.integral) terms found.0 none x (omega (arith, found.1)) ∙ found.2 none)
          ]),
    )

-- ---- the integrals of rows

-- the integrals are those that the rows show
abbrev pub AreGathered : List Row → List Integral → Type 0
AreGathered rows shown = (x : Integral) → Contains shown x ↔ IsShownBySome rows x

pub gathered_none : AreGathered [] []
gathered_none x = (λ member. absurd (Contains-none x member), λ (row, member, shows). absurd (Contains-none row member))

pub gathered_more : (rows : List Row) (n : ℕ) (row : Row) (old now : List Integral) → n < length rows → row ≡ get_or rows n row → AreGathered (take n rows) old → HasGained row old now → AreGathered (take (n + 1) rows) now
gathered_more rows n row old now within read before more =
    let longer : take (n + 1) rows ≡ take n rows ++ row ∷ [] = take_more rows n row within ∙ ap (λ r. take n rows ++ r ∷ []) (sym read) in
    subst (λ rs. AreGathered rs now) (sym longer) (λ x. (
      λ member.
          elim ((more x).0 member) [
            | inl first ↦ let found = (before x).0 first in (found.0, Contains-append_left (take n rows) (row ∷ []) found.0 found.1, found.2)
            | inr shows ↦ (row, Contains-push (take n rows) row, shows)
          ],
      λ (other, member, shows).
          elim (Contains-push_cases (take n rows) row other member) [
            | inl earlier ↦ (more x).1 (inl ((before x).1 (other, earlier, shows)))
            | inr same ↦ (more x).1 (inr (subst (λ r. Shows r x) (sym same) shows))
          ],
    ))

-- ---- the search

pub found_among : (order : Order) (shown : List Integral) (x : Integral) (place : ℕ) → place < length shown → ((d : Integral) → compare order (get_or shown place d) x ≡ Equal) → Contains shown x
found_among order shown x place within equal = (place, within, compare-IsAntisymmetric order (get_or shown place x) x (equal x))

pub not_among : (order : Order) (shown : List Integral) (x : Integral) (place : ℕ) → (IsNonDecreasingBy (λ y. ordering_index (compare order y x)) shown → IsPartitionPoint (λ y. compare order y x ≡ Less) (λ y. compare order y x ≡ Greater) shown place) → IsSorted (compare order) shown → ¬ (Contains shown x)
not_among order shown x place parted sorted (k, within, at) =
    let parts = parted (searchable_from_sorted (compare-total order) (λ y. y) shown x sorted) in
    let tied : compare order (get_or shown k x) x ≡ Equal = ap (λ y. compare order y x) at ∙ tied_itself (compare-total order) x in
    elim (cases_lt k place) [
      | inl before ↦ let less = parts.0 k x (omega arith) before in absurd (cc)
      | inr after ↦ let greater = parts.1 k x after within in absurd (cc)
    ]
