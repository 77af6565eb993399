-- The order of the rows is the one that all of them have.
use Rattle.std.proofs.Common.{◌≡◌, ℕ, List, [], ◌∷◌, ◌++◌, All, refl, sym, subst, arith}
use Rattle.std.proofs.lemmas.List.Elements.{All-append}
use Rattle.integral_index.specs.declared.Order.TheVariants.{Standard}
use Rattle.sparse_row.specs.Row.{Row, IsRow}
use Rattle.sector_forward.specs.Elimination.{order_of}
use Rattle.back_substitute.specs.Substitution.{AreRules, AreBelow}
use Rattle.row_tests.proofs.substitution.substituted.Goals as goal

standard : (p : ℕ) (rows : List Row) → All (IsRow p Standard) rows → order_of rows ≡ Standard
standard p [] are = refl
standard p (row ∷ rows) are = (are 0 row (omega arith)).ordered

pub substitute-requires-clause-rows : goal.substitute-requires-clause-rows
substitute-requires-clause-rows c =
    let p = c.args.modulus in
    let rows = c.in_ok-rows.rows.items in
    let below = c.in_ok-below.below.items in
    let order : order_of (rows ++ below) ≡ Standard = standard p (rows ++ below) (All-append (IsRow p Standard) rows below c.in_ok-rows.ensures c.in_ok-below.ensures) in
    let rules : AreRules p Standard (record { family = 0; sector = c.args.sector }) rows = subst (AreRules p Standard (record { family = 0; sector = c.args.sector })) c.deref.ensures.value (c.if-not-are_rules.ensures refl) in
    subst (λ o. AreRules p o (record { family = 0; sector = c.args.sector }) rows) (sym order) rules

pub substitute-requires-clause-below : goal.substitute-requires-clause-below
substitute-requires-clause-below c =
    let p = c.args.modulus in
    let rows = c.in_ok-rows.rows.items in
    let below = c.in_ok-below.below.items in
    let order : order_of (rows ++ below) ≡ Standard = standard p (rows ++ below) (All-append (IsRow p Standard) rows below c.in_ok-rows.ensures c.in_ok-below.ensures) in
    let outside : AreBelow p Standard (record { family = 0; sector = c.args.sector }) below = subst (AreBelow p Standard (record { family = 0; sector = c.args.sector })) c.deref-else-not-are_rules.ensures.value (c.if-not-are_below.ensures refl) in
    subst (λ o. AreBelow p o (record { family = 0; sector = c.args.sector }) below) (sym order) outside
