use Rattle.std.proofs.Common.{◌≡◌, ◌+◌, ℕ, subst, arith}
use Rattle.std.proofs.lemmas.Result.{err_from_is_err_and}
use Rattle.seed_sets.specs.Seeds.{IsSeed}
use Rattle.seed_sets.specs.Gathering.{Gains, IsBefore}
use Rattle.seed_sets.specs.Sectors.{IsOfSector}
use Rattle.seed_sets.proofs.GatheringLemmas.{Gains-more, Gains-same, IsCause-more, IsCause-same}
use Rattle.seed_sets.proofs.SectorLemmas.{IsSeed-sectors}
use Rattle.seed_sets.proofs.specs.add_spec.Goals as goal

pub loop-sector-preserved : goal.loop-sector-preserved
loop-sector-preserved c =
    Gains-more c.args.found.now.items c.loop-sector.found.items c.add_sector.new.found.items c.loop-sector.sector (IsOfSector c.args.spec.now c.args.shape.now) c.loop-sector.invariant c.in_ok-add_sector.ensures.members

pub returns-in_err-add_sector-clause-many : goal.returns-in_err-add_sector-clause-many
returns-in_err-add_sector-clause-many c =
    let p = err_from_is_err_and c.from_residual.result c.from_residual.ensures.1 in
    let spec = c.args.spec.now in
    let shape = c.args.shape.now in
    let order = c.args.limit.order in
    let most = c.args.limit.most in
    let all = IsCause-more order most c.args.found.now.items c.loop-sector.found.items c.loop-sector.sector (spec.sector + 1) (IsOfSector spec shape) (omega arith) c.loop-sector.invariant _ c.in_err-add_sector.ensures.many in
    rw (p.1, p.2) (IsCause-same order most c.args.found.now.items (IsBefore (spec.sector + 1) (IsOfSector spec shape)) (IsSeed spec shape) (λ x. (IsSeed-sectors spec shape x).0) _ all)

pub returns-clause-members : goal.returns-clause-members
returns-clause-members c =
    let spec = c.args.spec.now in
    let shape = c.args.shape.now in
    let all : c.loop-sector.sector ≡ spec.sector + 1 = omega arith in
    Gains-same c.args.found.now.items c.loop-sector.found.items (IsBefore (spec.sector + 1) (IsOfSector spec shape)) (IsSeed spec shape) (IsSeed-sectors spec shape)
    (subst (λ (n : ℕ). Gains c.args.found.now.items c.loop-sector.found.items (IsBefore n (IsOfSector spec shape))) all c.loop-sector.invariant)
