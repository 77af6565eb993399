-- The order of the rows is the one that all of them have.
use Rattle.std.proofs.Common.{◌≡◌, ℕ, List, [], ◌∷◌, All, refl, sym, subst, arith}
use Rattle.integral_index.specs.declared.Order.{Order}
use Rattle.integral_index.specs.declared.Order.TheVariants.{Standard}
use Rattle.integral_index.specs.declared.Unit.{Unit}
use Rattle.sparse_row.specs.Row.{Row}
use Rattle.sector_forward.specs.Elimination.{IsTaken, order_of}
use Rattle.row_tests.proofs.forward.counted.Goals as goal

standard : (p : ℕ) (unit : Unit) (rows : List Row) → All (IsTaken p Standard unit) rows → order_of rows ≡ Standard
standard p unit [] are = refl
standard p unit (row ∷ rows) are = ((are 0 row (omega arith)).is_row).ordered

pub eliminate-requires : goal.eliminate-requires
eliminate-requires g c =
    subst (λ (o : Order). All (IsTaken c.args.modulus o c.args.unit) c.args.rows.items) (sym (standard c.args.modulus c.args.unit c.args.rows.items c.requires.rows)) c.requires.rows
