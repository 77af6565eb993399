-- The back rows of a state have one order in which they ascend.
use Rattle.std.proofs.Common.{◌≡◌, ℕ, List, [], ◌∷◌, AllPairs, Contains, refl, ap, subst, ◌∙◌, inl, inr, arith}
use Rattle.std.specs.Ordering.{ordering_reverse}
use Rattle.std.specs.declared.cmp.Ordering.TheVariants.{Less, Equal, Greater}
use Rattle.std.proofs.lemmas.Cmp.{tied_itself}
use Rattle.integral_index.specs.Order.{compare}
use Rattle.integral_index.specs.Integral.{Integral}
use Rattle.integral_index.specs.declared.Order.{Order}
use Rattle.integral_index.proofs.Orders.{compare-total, compare-IsAntisymmetric}
use Rattle.sparse_row.specs.Row.{Row, coefficient, IsPivot}
use Rattle.sparse_row.specs.ReducedList.{Ascend}
use Rattle.sparse_row.proofs.RowValues.{greatest_same}
use Rattle.sector_forward.proofs.Members.{Contains-cons_cases, Contains-here, Contains-there, AllPairs-head, AllPairs-tail, same_from_members}
use Rattle.sector_machine.specs.State.{State}
use Rattle.sector_machine.specs.Machine.{back_rows}
use Rattle.sector_machine.specs.Tasks.{IsTableOf}
use Rattle.sector_machine.specs.Invariant.{HoldsOfRows}
use Rattle.sector_machine.proofs.Lists.{Contains-none, All-from_members, AllPairs-none, AllPairs-cons}
use Rattle.sector_machine.proofs.Rows.{back_pivot}
use Rattle.sector_machine.proofs.Apart.{AreTwoApart, pairs_from_apart}

module _ (order : Order) where
  abbrev HasPivot : Row → Type 0
  HasPivot row = (x : Integral) × IsPivot order row x

  ascend_from : (row other : Row) (x y : Integral) → IsPivot order row x → IsPivot order other y → compare order x y ≡ Less → Ascend order row other
  ascend_from row other x y pivot second less v w top also =
      let first : x ≡ v = greatest_same order row x v pivot.is_greatest top in
      let last : y ≡ w = greatest_same order other y w second.is_greatest also in
      subst (λ z. compare order v z ≡ Less) last (subst (λ z. compare order z y ≡ Less) first less)

  -- the list ascends, and has just the members of the other
  record IsSorting (rows table : List Row) : Type 0 where
    pivots : (row : Row) → Contains table row → HasPivot row
    ascend : AllPairs (Ascend order) table
    forth : (row : Row) → Contains table row → Contains rows row
    back : (row : Row) → Contains rows row → Contains table row

  -- a row with a pivot is put in its place
  insert : (row : Row) (x : Integral) → IsPivot order row x → (table : List Row) → ((other : Row) → Contains table other → HasPivot other) → AllPairs (Ascend order) table → ((other : Row) → Contains table other → AreTwoApart order row other) → (more : List Row) × IsSorting (row ∷ table) more
  insert row x pivot [] pivots ascend apart = (
    row ∷ [],
    record {
      pivots = λ other member. elim (Contains-cons_cases row [] other member) [ inl same ↦ subst HasPivot same (x, pivot) | inr none ↦ absurd (Contains-none other none) ];
      ascend = AllPairs-cons (Ascend order) row [] (λ other none. absurd (Contains-none other none)) ascend;
      forth = λ _ member. member;
      back = λ _ member. member;
    },
  )
  insert row x pivot (t ∷ ts) pivots ascend apart =
      let own = pivots t (Contains-here t ts) in
      let y = own.0 in
      elim (compare order x y) as (λ o. compare order x y ≡ o → (more : List Row) × IsSorting (row ∷ t ∷ ts) more) [
        | Less ↦ λ less. (
          row ∷ t ∷ ts,
          record {
            pivots = λ other member. elim (Contains-cons_cases row (t ∷ ts) other member) [ inl same ↦ subst HasPivot same (x, pivot) | inr later ↦ pivots other later ];
            ascend = AllPairs-cons (Ascend order) row (t ∷ ts)
                (λ other member.
                elim (Contains-cons_cases t ts other member) [
                  | inl same ↦ subst (Ascend order row) same (ascend_from row t x y pivot own.1 less)
                  | inr later ↦
                      let last = pivots other member in
                      let up = AllPairs-head (Ascend order) t ts other ascend later y last.0 (own.1).is_greatest (last.1).is_greatest in
                      ascend_from row other x last.0 pivot last.1 ((compare-total order).trans x y last.0 less up)
                ])
                ascend;
            forth = λ _ member. member;
            back = λ _ member. member;
          },
        )
        | Equal ↦ λ tied.
            let same : x ≡ y = compare-IsAntisymmetric order x y tied in
            let none : coefficient t x ≡ 0 = (apart t (Contains-here t ts)).first x pivot in
            let one : coefficient t x ≡ 1 = ap (coefficient t) same ∙ (own.1).one in
            absurd (omega (arith, none, one))
        | Greater ↦ λ greater.
            let later = insert row x pivot ts (λ other member. pivots other (Contains-there t ts other member)) (AllPairs-tail (Ascend order) t ts ascend) (λ other member. apart other (Contains-there t ts other member)) in
            let more = later.0 in
            let is = later.1 in
            let up : compare order y x ≡ Less = (compare-total order).antisymm y x ∙ ap ordering_reverse greater in (
              t ∷ more,
              record {
                pivots = λ other member. elim (Contains-cons_cases t more other member) [ inl same ↦ subst HasPivot same own | inr rest ↦ is.pivots other rest ];
                ascend = AllPairs-cons (Ascend order) t more
                    (λ other member.
                    elim (Contains-cons_cases row ts other (is.forth other member)) [
                      | inl same ↦ subst (Ascend order t) same (ascend_from t row y x own.1 pivot up)
                      | inr rest ↦ AllPairs-head (Ascend order) t ts other ascend rest
                    ])
                    is.ascend;
                forth = λ other member.
                    elim (Contains-cons_cases t more other member) [
                      | inl same ↦ Contains-there row (t ∷ ts) other (subst (Contains (t ∷ ts)) same (Contains-here t ts))
                      | inr rest ↦
                          elim (Contains-cons_cases row ts other (is.forth other rest)) [
                            | inl same ↦ subst (Contains (row ∷ t ∷ ts)) same (Contains-here row (t ∷ ts))
                            | inr old ↦ Contains-there row (t ∷ ts) other (Contains-there t ts other old)
                          ]
                    ];
                back = λ other member.
                    elim (Contains-cons_cases row (t ∷ ts) other member) [
                      | inl same ↦ Contains-there t more other (is.back other (subst (Contains (row ∷ ts)) same (Contains-here row ts)))
                      | inr rest ↦
                          elim (Contains-cons_cases t ts other rest) [
                            | inl same ↦ subst (Contains (t ∷ more)) same (Contains-here t more)
                            | inr old ↦ Contains-there t more other (is.back other (Contains-there row ts other old))
                          ]
                    ];
              },
            )
      ] refl

  sorted : (rows : List Row) → ((row : Row) → Contains rows row → HasPivot row) → AllPairs (AreTwoApart order) rows → (table : List Row) × IsSorting rows table
  sorted [] pivots apart = ([], record { pivots = pivots; ascend = AllPairs-none (Ascend order); forth = λ _ member. member; back = λ _ member. member })
  sorted (row ∷ rows) pivots apart =
      let rest = sorted rows (λ other member. pivots other (Contains-there row rows other member)) (AllPairs-tail (AreTwoApart order) row rows apart) in
      let is = rest.1 in
      let own = pivots row (Contains-here row rows) in
      let whole = insert row own.0 own.1 rest.0 is.pivots is.ascend (λ other member. AllPairs-head (AreTwoApart order) row rows other apart (is.forth other member)) in
      let w = whole.1 in (
        whole.0,
        record {
          pivots = w.pivots;
          ascend = w.ascend;
          forth = λ other member.
              elim (Contains-cons_cases row rest.0 other (w.forth other member)) [
                | inl same ↦ subst (Contains (row ∷ rows)) same (Contains-here row rows)
                | inr old ↦ Contains-there row rows other (is.forth other old)
              ];
          back = λ other member.
              elim (Contains-cons_cases row rows other member) [
                | inl same ↦ w.back other (subst (Contains (row ∷ rest.0)) same (Contains-here row rest.0))
                | inr old ↦ w.back other (Contains-there row rest.0 other (is.back other old))
              ];
        },
      )

module _ (p : ℕ) (order : Order) (equations : List Row) (state : State) (holds : HoldsOfRows p order equations state) where
  pub table_is_there : (table : List Row) × IsTableOf order state table
  table_is_there =
      let found = sorted order (back_rows state) (back_pivot p order equations state holds) (pairs_from_apart order (back_rows state) holds.back.apart) in
      let is = found.1 in
      (found.0, record { ascend = is.ascend; members = λ row. (is.forth row, is.back row) })

  pub one_table : (table other : List Row) → IsTableOf order state table → IsTableOf order state other → table ≡ other
  one_table table other is also =
      same_from_members (HasPivot order) (Ascend order)
      (λ row second (x, pivot) (y, last) up down.
      let up : compare order x y ≡ Less = up x y pivot.is_greatest last.is_greatest in
      let down : compare order y x ≡ Less = down y x last.is_greatest pivot.is_greatest in
      let both = (compare-total order).trans x y x up down in
      let tied = tied_itself (compare-total order) x in
      absurd (cc))
      table other
      (All-from_members (HasPivot order) table (λ row member. back_pivot p order equations state holds row ((is.members row).0 member)))
      (All-from_members (HasPivot order) other (λ row member. back_pivot p order equations state holds row ((also.members row).0 member)))
      is.ascend also.ascend
      (λ row member. (also.members row).1 ((is.members row).0 member))
      (λ row member. (is.members row).1 ((also.members row).0 member))
