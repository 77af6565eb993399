-- The unit's slot stands at one place.
use Rattle.std.proofs.Common.{subst}
use Rattle.reduction_core.specs.Slots.{IsUnitAt}
use Rattle.reduction_core.specs.Applying.{HasForward}
use Rattle.reduction_core.proofs.ApplyLemmas.{changed_for}
use Rattle.reduction_core.proofs.applying.set_forward.Goals as goal

pub returns : goal.returns
returns c =
    let at : IsUnitAt c.args.slots.now.items c.args.unit c.in-Some.place = subst (λ slots. IsUnitAt slots c.args.unit c.in-Some.place) c.deref.ensures.value c.in-Some.ensures in
    changed_for (HasForward c.args.rows) (λ slot after has. has.unit) c.args.slots.now.items c.set_forward_at.new.slots.items c.args.unit c.in-Some.place c.requires.ascend at c.set_forward_at.ensures
