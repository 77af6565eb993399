-- The back rows of the slot.
use Rattle.std.proofs.Common.{◌↔◌, IsTrue, [], unwrap_or, sym, ap, subst, ◌∙◌}
use Rattle.std.specs.Option.{option_map}
use Rattle.sector_forward.specs.Elimination.{IsShownBySome}
use Rattle.reduction_core.proofs.accepting.is_shown_at.Goals as goal

pub returns-in-Some : goal.returns-in-Some
returns-in-Some c =
    let own = ap (λ o. unwrap_or (option_map (λ rows. rows.items) o) []) c.in-Some.is in
    subst (λ rules. IsTrue c.is_shown_by_some.result ↔ IsShownBySome rules c.args.x.now) (c.deref.ensures.value ∙ sym own) c.is_shown_by_some.ensures
