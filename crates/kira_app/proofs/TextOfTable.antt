-- The table that the reduction gave is the one of the plan's equations, and its text that of every such table.
use Rattle.std.proofs.Common.{◌≡◌, ℕ, List, sym, ap, subst, ◌∙◌}
use Rattle.integral_index.specs.declared.Order.{Order}
use Rattle.sparse_row.specs.Row.{Row}
use Rattle.sparse_row.specs.ReducedList.{IsReduced}
use Rattle.sector_forward.specs.declared.fault.ForwardFault.{ForwardFault}
use Rattle.sector_forward.specs.declared.fault.ForwardFault.TheVariants as fault
use Rattle.sector_forward.specs.Fault.{HasCause}
use Rattle.reduction_core.specs.Table.{Table}
use Rattle.table_text.specs.Pieces.{name_of}
use Rattle.table_text.specs.TableText.{table_text, zeros_of}
use Rattle.job_equations.specs.Laws.{OneListOfEquations}
use Rattle.job_plan.specs.Plans.{Plan}
use Rattle.kira_app.specs.Message.{status_of_fault}
use Rattle.kira_app.specs.TopClauses.{AreEquationsOf, IsSolved, IsTextOf, IsReductionFault}

-- the table of a board whose state could be reached from the equations is their one reduced list
pub solved_table : OneListOfEquations → (plan : Plan) (equations : List Row) (table : Table) → AreEquationsOf plan equations →
    (p : ℕ) (order : Order) → p ≡ plan.modulus → order ≡ plan.order → IsReduced p order equations table.rows →
    ((other : List Row) → IsReduced p order equations other → other ≡ table.rows) → table.modulus ≡ p → table.order ≡ order → IsSolved plan table
solved_table law plan equations table are p order is_p is_order reduced only modulus ordered =
    let here : (rows : List Row) → IsReduced p order equations rows → IsReduced plan.modulus plan.order equations rows =
    λ rows h. subst (λ n. IsReduced n plan.order equations rows) is_p (subst (λ (o : Order). IsReduced p o equations rows) is_order h) in
    let there : (rows : List Row) → IsReduced plan.modulus plan.order equations rows → IsReduced p order equations rows =
    λ rows h. subst (λ n. IsReduced n order equations rows) (sym is_p) (subst (λ (o : Order). IsReduced plan.modulus o equations rows) (sym is_order) h) in
    record {
      modulus = modulus ∙ is_p;
      order = ordered ∙ is_order;
      is = record { equations = equations; are = are; reduced = here table.rows reduced };
      only = λ other h.
          let equal : h.equations ≡ equations = law plan.bases plan.symmetries plan.zeros plan.dimension plan.order plan.seeds h.equations equations h.are are in
          only other (there other (subst (λ (rows : List Row). IsReduced plan.modulus plan.order rows other) equal h.reduced));
    }

pub text_of_solved : (plan : Plan) (table : Table) (bytes : List ℕ) → IsSolved plan table → bytes ≡ table_text (name_of plan.names) (zeros_of plan.zeros) table plan.selection → IsTextOf plan bytes
text_of_solved plan table bytes solved is =
    record {
      exists = (table.rows, solved.is);
      every = λ other h.
          let same : table ≡ record { modulus = plan.modulus; order = plan.order; rows = other } =
          λ i. record { modulus = solved.modulus i; order = solved.order i; rows = sym (solved.only other h) i } in
          is ∙ ap (λ t. table_text (name_of plan.names) (zeros_of plan.zeros) t plan.selection) same;
    }

-- a fault of the reduction as a status
pub fault_status : (p : ℕ) (f : ForwardFault) → HasCause p f → IsReductionFault p (status_of_fault f)
fault_status p (fault.Composite composite) h = record { above_1 = h.0; below = h.1; divides = h.2 }
fault_status p fault.OutOfMemory h = tt
