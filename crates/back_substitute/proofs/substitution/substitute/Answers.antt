-- The rows that were cleared one by one are a back substitution.
use Rattle.std.proofs.Common.{◌≡◌, ◌++◌, All, ap, subst, sym, ◌∙◌}
use Rattle.sector_forward.specs.Elimination.{order_of}
use Rattle.sector_forward.specs.Steps.{HasPivot}
use Rattle.back_substitute.specs.Substitution.{IsSubstitution}
use Rattle.back_substitute.proofs.Substitutions.{IsSubstitution-from_slices}
use Rattle.back_substitute.proofs.substitution.substitute.Goals as goal

pub index_of-requires-clause-pivots : goal.index_of-requires-clause-pivots
index_of-requires-clause-pivots c =
    let rows = c.args.rows.items in
    let below = c.args.below.items in
    let order : c.order_of-order.result ≡ order_of (rows ++ below) =
    c.order_of-order.ensures ∙ ap (λ r. order_of (r ++ c.deref-2.result.now)) c.deref.ensures.value ∙ ap (λ b. order_of (rows ++ b)) c.deref-2.ensures.value in
    let have : All (HasPivot (order_of (rows ++ below))) below = λ k d h. (c.requires.below.each k d h).pivot in
    subst (λ b. All (HasPivot c.order_of-order.result) b) (sym c.deref-3.ensures.value) (subst (λ o. All (HasPivot o) below) (sym order) have)

pub returns-clause-substitution : goal.returns-clause-substitution
returns-clause-substitution c =
    let rows = c.args.rows.items in
    let below = c.args.below.items in
    let order : c.order_of-order.result ≡ order_of (rows ++ below) =
    c.order_of-order.ensures ∙ ap (λ r. order_of (r ++ c.deref-2.result.now)) c.deref.ensures.value ∙ ap (λ b. order_of (rows ++ b)) c.deref-2.ensures.value in
    IsSubstitution-from_slices c.args.modulus (order_of (rows ++ below)) c.order_of-order.result c.args.unit rows below c.in_ok-made.made.items c.deref-4.result.now c.deref-5.result.now order c.deref-4.ensures.value c.deref-5.ensures.value
    c.requires.rows c.requires.below c.in_ok-made.ensures

pub invariant_of-result : goal.invariant_of-result
invariant_of-result c =
    let rows = c.args.rows.items in
    let below = c.args.below.items in
    let order : c.order_of-order.result ≡ order_of (rows ++ below) =
    c.order_of-order.ensures ∙ ap (λ r. order_of (r ++ c.deref-2.result.now)) c.deref.ensures.value ∙ ap (λ b. order_of (rows ++ b)) c.deref-2.ensures.value in
    let whole = IsSubstitution-from_slices c.args.modulus (order_of (rows ++ below)) c.order_of-order.result c.args.unit rows below c.in_ok-made.made.items c.deref-4.result.now c.deref-5.result.now order c.deref-4.ensures.value c.deref-5.ensures.value
    c.requires.rows c.requires.below c.in_ok-made.ensures in
    record {
      modulus = c.value-p.ensures.modulus;
      substitution = subst (λ o. IsSubstitution c.args.modulus o c.args.unit rows below c.in_ok-made.made.items) (sym order) whole;
    }
