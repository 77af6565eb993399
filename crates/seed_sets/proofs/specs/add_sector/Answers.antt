use Rattle.std.proofs.Common.{sym, ◌∙◌}
use Rattle.std.proofs.lemmas.Result.{on_ok_weaker, IfErr-weaker}
use Rattle.seed_sets.specs.Sectors.{IsOfSector}
use Rattle.seed_sets.proofs.GatheringLemmas.{Gains-nothing, Gains-same, IsCause-same}
use Rattle.seed_sets.proofs.SectorLemmas.{none_below, Continues-whole}
use Rattle.seed_sets.proofs.specs.add_sector.Goals as goal

pub returns-then-spec-t-clause-members : goal.returns-then-spec-t-clause-members
returns-then-spec-t-clause-members c =
    Gains-nothing c.args.found.now.items (IsOfSector c.args.spec.now c.args.shape.now c.args.sector) (none_below c.args.spec.now c.args.shape.now c.args.sector c.if-spec-t.true)

pub returns-clause-members : goal.returns-clause-members
returns-clause-members c =
    let wanted = sym c.is_wanted.ensures ∙ c.if-not-is_wanted.false in
    on_ok_weaker c.extend.result
    (Gains-same c.args.found.now.items c.extend.new.found.items _ (IsOfSector c.args.spec.now c.args.shape.now c.args.sector)
    (Continues-whole c.args.spec.now c.args.shape.now c.args.sector c.most_dots.result wanted c.if-spec-t.false c.most_dots.ensures.value))
    c.extend.ensures.members

pub returns-clause-many : goal.returns-clause-many
returns-clause-many c =
    let wanted = sym c.is_wanted.ensures ∙ c.if-not-is_wanted.false in
    IfErr-weaker c.extend.result _ _
    (IsCause-same c.args.limit.order c.args.limit.most c.args.found.now.items _ (IsOfSector c.args.spec.now c.args.shape.now c.args.sector)
    (λ x. (Continues-whole c.args.spec.now c.args.shape.now c.args.sector c.most_dots.result wanted c.if-spec-t.false c.most_dots.ensures.value x).0))
    c.extend.ensures.many
