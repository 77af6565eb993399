-- What is computed from the rows of a task is an event.
use Rattle.std.proofs.Common.{ℕ, ◌<◌, List, length, get_or, Contains, sym, subst, arith}
use Rattle.std.proofs.lemmas.List.Elements.{Contains-get_or}
use Rattle.integral_index.specs.declared.Unit.{Unit}
use Rattle.integral_index.specs.declared.Order.{Order}
use Rattle.sparse_row.specs.Row.{Row, IsPivot}
use Rattle.back_substitute.specs.Substitution.{AreRules, IsRuleOutside, AreBelow, HavePivotsOf, IsSubstitution}
use Rattle.back_substitute.specs.Laws.{HasAllShown}
use Rattle.back_substitute.proofs.Longer.{clear_of_all, span_with_all}
use Rattle.sector_machine.specs.State.{State, rows_at}
use Rattle.sector_machine.specs.Machine.{back_rows, MayBack, HaveThePivots, IsAfterBack, IsBack}
use Rattle.sector_machine.specs.Tasks.{shows_pivot_of, below_of}
use Rattle.sector_machine.specs.Invariant.{HoldsOfRows}
use Rattle.sector_machine.proofs.Lists.{All-from_members, kept_member, member_kept}
use Rattle.sector_machine.proofs.Greatest.{test-from_shown}
use Rattle.sector_machine.proofs.Rows.{back_row, back_pivot, back_are_rows, back_shows_none}
use Rattle.sector_machine.proofs.Apart.{AreApart-filter}

-- pivots that are kept place by place are kept
the_pivots : (p : ℕ) (order : Order) (unit : Unit) (input rows : List Row) → AreRules p order unit input → HavePivotsOf order input rows → HaveThePivots order input rows
the_pivots p order unit input rows rules kept =
    record {
      len = kept.len;
      each = λ row x member pivot.
          let k = member.0 in
          let in_rows : k < length rows = omega (arith, kept.len, member.1) in
          (get_or rows k row, Contains-get_or rows k row in_rows, kept.kept k row x member.1 (subst (λ r. IsPivot order r x) (sym member.2) pivot));
    }

module _ (p : ℕ) (order : Order) (equations : List Row) (unit : Unit) (state : State) (holds : HoldsOfRows p order equations state) where
  of_back : (row : Row) → Contains (below_of order state unit) row → Contains (back_rows state) row
  of_back row member = (kept_member (shows_pivot_of order (rows_at state.forward unit)) (back_rows state) row member).0

  pub are_below : MayBack unit state → AreBelow p order unit (below_of order state unit)
  are_below may =
      record {
        each = All-from_members (IsRuleOutside p order unit) (below_of order state unit)
            (λ row member.
            let in_back = of_back row member in
            record {
              is_row = back_row p order equations state holds row in_back;
              pivot = back_pivot p order equations state holds row in_back;
              none = λ x shows. back_shows_none p order equations state holds unit row x may.new in_back shows;
            });
        apart = AreApart-filter order (shows_pivot_of order (rows_at state.forward unit)) (back_rows state) holds.back.apart;
      }

  -- they are all back rows whose pivots the unit's forward rows show
  pub has_all_shown : HasAllShown p order (rows_at state.forward unit) (below_of order state unit) (back_rows state)
  has_all_shown =
      record {
        rows = back_are_rows p order equations state holds;
        apart = holds.back.apart;
        among = of_back;
        enough = λ row x member pivot shown.
            member_kept (shows_pivot_of order (rows_at state.forward unit)) (back_rows state) row member
            (test-from_shown p order (rows_at state.forward unit) row x (back_row p order equations state holds row member) pivot.is_greatest shown);
      }

  pub substitution_serves : (below rows : List Row) (after : State) → MayBack unit state → HasAllShown p order (rows_at state.forward unit) below (back_rows state) → IsSubstitution p order unit (rows_at state.forward unit) below rows → IsAfterBack unit rows state after → IsBack p order unit rows state after
  substitution_serves below rows after may all s change =
      record {
        may = may;
        rules = s.rules;
        pivots = the_pivots p order unit (rows_at state.forward unit) rows s.given s.pivots;
        clear = clear_of_all p order unit (rows_at state.forward unit) below rows (back_rows state) s all;
        span = span_with_all p order unit (rows_at state.forward unit) below rows (back_rows state) s all;
        change = change;
      }
