use Rattle.std.proofs.Common.{◌≡◌, [], length, arith}
use Rattle.std.specs.Prelude.{Contains}
use Rattle.std.proofs.lemmas.Result.{err_from_is_err_and}
use Rattle.seed_sets.specs.Seeds.{IsSeedOfSome}
use Rattle.seed_sets.specs.Gathering.{IsAmong, IsBefore}
use Rattle.seed_sets.proofs.GatheringLemmas.{Gains-more, Gains-same, Gains-all, of_none, IsCause-more, IsCause-same, IsCause-weaker}
use Rattle.seed_sets.proofs.SpecLemmas.{IsSeedAt, IsSeedAt-only, IsSeedOfSome-places}
use Rattle.seed_sets.proofs.list.Goals as goal

pub loop-spec-preserved : goal.loop-spec-preserved
loop-spec-preserved c =
    let specs = c.args.specs.now in
    let shapes = c.args.shapes.now in
    let i = c.loop-spec.spec-index in
    Gains-more [] c.loop-spec.found.items c.add_spec.new.found.items i (IsSeedAt specs shapes) c.loop-spec.invariant
    (Gains-same c.loop-spec.found.items c.add_spec.new.found.items _ (IsSeedAt specs shapes i) (IsSeedAt-only specs shapes i _ c.index-shapes-spec.result c.loop-spec-test.true c.requires.fitting c.index-shapes-spec.is) c.in_ok-add_spec.ensures.members)

pub returns-in_err-add_spec-clause-many : goal.returns-in_err-add_spec-clause-many
returns-in_err-add_spec-clause-many c =
    let p = err_from_is_err_and c.from_residual.result c.from_residual.ensures.1 in
    let specs = c.args.specs.now in
    let shapes = c.args.shapes.now in
    let i = c.loop-spec.spec-index in
    let here = IsCause-same c.args.order c.args.most c.loop-spec.found.items _ (IsSeedAt specs shapes i) (λ x. (IsSeedAt-only specs shapes i _ c.index-shapes-spec.result c.loop-spec-test.true c.requires.fitting c.index-shapes-spec.is x).0) _ c.in_err-add_spec.ensures.many in
    let all = IsCause-more c.args.order c.args.most [] c.loop-spec.found.items i (length specs) (IsSeedAt specs shapes) c.loop-spec-test.true c.loop-spec.invariant _ here in
    rw (p.1, p.2) (IsCause-weaker c.args.order c.args.most (IsAmong [] (IsBefore (length specs) (IsSeedAt specs shapes))) (IsSeedOfSome specs shapes) (λ x w. (IsSeedOfSome-places specs shapes x).0 (of_none (IsBefore (length specs) (IsSeedAt specs shapes)) x w)) _ all)

pub returns-in_err-settle-clause-many : goal.returns-in_err-settle-clause-many
returns-in_err-settle-clause-many c =
    let p = err_from_is_err_and c.from_residual-in_err-settle.result c.from_residual-in_err-settle.ensures.1 in
    let specs = c.args.specs.now in
    let shapes = c.args.shapes.now in
    let all : c.loop-spec.spec-index ≡ length specs = omega arith in
    let members = Gains-all c.loop-spec.found.items c.loop-spec.spec-index (length specs) (IsSeedAt specs shapes) (IsSeedOfSome specs shapes) all c.loop-spec.invariant (IsSeedOfSome-places specs shapes) in
    rw (p.1, p.2) (IsCause-weaker c.args.order c.args.most (Contains c.loop-spec.found.items) (IsSeedOfSome specs shapes) (λ x m. (members x).0 m) _ c.in_err-settle.ensures.many)

pub returns-clause-members : goal.returns-clause-members
returns-clause-members c =
    let specs = c.args.specs.now in
    let shapes = c.args.shapes.now in
    let all : c.loop-spec.spec-index ≡ length specs = omega arith in
    let members = Gains-all c.loop-spec.found.items c.loop-spec.spec-index (length specs) (IsSeedAt specs shapes) (IsSeedOfSome specs shapes) all c.loop-spec.invariant (IsSeedOfSome-places specs shapes) in λ x. (
      λ m. (members x).0 ((c.in_ok-settle.ensures.members x).0 m),
      λ h. (c.in_ok-settle.ensures.members x).1 ((members x).1 h),
    )
