use Rattle.std.proofs.Common.{◌≡◌, ℕ, ◌<◌, ◌-◌, ◌∷◌, [], ◌++◌, take, length, List, ℤ, sym, ap, subst, ◌∙◌, arith, to_z, of_z, w8}
use Rattle.std.proofs.lemmas.Int.{ints}
use Rattle.std.proofs.lemmas.List.Elements.{All-push}
use Rattle.std.proofs.lemmas.Result.{err_from_is_err_and, on_ok_weaker, IfErr-weaker}
use Rattle.std.specs.List.{All}
use Rattle.integral_index.specs.Integral.{Integral, IsIndex}
use Rattle.seed_sets.specs.declared.endings.Rest.{Rest}
use Rattle.seed_sets.specs.Endings.{Continues, choices, index_at, after}
use Rattle.seed_sets.specs.Gathering.{Gains, IsBefore}
use Rattle.seed_sets.proofs.EndingLemmas.{Continues-made, Continues-step, Continues-along, first_more, IsIndex-at, IsWithin, IsWithin-after, after-places}
use Rattle.seed_sets.proofs.GatheringLemmas.{Gains-same, Gains-more, IsCause-same, IsCause-more}
use Rattle.seed_sets.proofs.endings.+extend.Goals as goal

pub returns-then-rest-eq0-clause-members : goal.returns-then-rest-eq0-clause-members
returns-then-rest-eq0-clause-members t c =
    let none : c.args.rest.places ≡ 0 = omega arith in
    on_ok_weaker c.add.result
    (Gains-same c.args.found.now.items c.add.new.found.items (λ y. c.in_ok-integral.integral ≡ y) (Continues c.args.family (take c.args.place c.args.indices) c.args.rest)
    (Continues-made c.args.rest none c.requires.sector c.args.family (take c.args.place c.args.indices) c.in_ok-integral.integral c.new.result c.in_ok-integral.was c.new.ensures))
    c.add.ensures.members

pub returns-then-rest-eq0-clause-many : goal.returns-then-rest-eq0-clause-many
returns-then-rest-eq0-clause-many t c =
    let none : c.args.rest.places ≡ 0 = omega arith in
    IfErr-weaker c.add.result _ _
    (IsCause-same c.args.limit.order c.args.limit.most c.args.found.now.items (λ y. c.in_ok-integral.integral ≡ y) (Continues c.args.family (take c.args.place c.args.indices) c.args.rest)
    (λ x. (Continues-made c.args.rest none c.requires.sector c.args.family (take c.args.place c.args.indices) c.in_ok-integral.integral c.new.result c.in_ok-integral.was c.new.ensures x).0))
    c.add.ensures.many

pub extend-requires : goal.extend-requires
extend-requires t c =
    let some : 0 < c.args.rest.places = omega arith in
    let places : c.after.result.places ≡ c.args.rest.places - 1 = ap (λ (r : Rest). r.places) c.after.ensures ∙ after-places c.args.rest c.loop-step.step in
    let within : IsWithin c.after.result =
    subst IsWithin (sym c.after.ensures) (IsWithin-after c.args.rest some (record { sector = c.requires.sector; dots = c.requires.dots; s = c.requires.s }) c.loop-step.step) in
    let value : to_z w8 (of_z w8 c.index.result) ≡ c.index.result = omega (arith, ints) in
    let room : c.args.place < length c.args.indices = omega arith in
    let first = first_more c.args.indices c.args.place _ _ room (value ∙ c.index.ensures) in
    let below : c.loop-step.step < choices c.args.rest = omega arith in
    let index = IsIndex-at c.args.rest c.requires.dots c.requires.s c.loop-step.step below in (
      omega (arith, places),
      (
        omega arith,
        (
          omega (arith, places),
          (
            omega (arith, places),
            (
              subst (λ (xs : List ℤ). All IsIndex xs) (sym first) (All-push IsIndex (take c.args.place c.args.indices) (index_at c.args.rest c.loop-step.step) c.requires.chosen index),
              (within.sector, (within.dots, within.s)),
            ),
          ),
        ),
      ),
    )

pub loop-step-preserved : goal.loop-step-preserved
loop-step-preserved t c =
    let value : to_z w8 (of_z w8 c.index.result) ≡ c.index.result = omega (arith, ints) in
    let room : c.args.place < length c.args.indices = omega arith in
    let first = first_more c.args.indices c.args.place _ _ room (value ∙ c.index.ensures) in
    let Kinds : ℕ → Integral → Type 0 = λ k. Continues c.args.family (take c.args.place c.args.indices ++ index_at c.args.rest k ∷ []) (after c.args.rest k) in
    Gains-more c.args.found.now.items c.loop-step.found.items c.extend.new.found.items c.loop-step.step Kinds c.loop-step.invariant
    (Gains-same c.loop-step.found.items c.extend.new.found.items _ (Kinds c.loop-step.step) (Continues-along c.args.family _ _ _ _ first c.after.ensures) c.in_ok-extend.ensures.members)

pub returns-in_err-extend-clause-many : goal.returns-in_err-extend-clause-many
returns-in_err-extend-clause-many t c =
    let p = err_from_is_err_and c.from_residual-in_err-extend.result c.from_residual-in_err-extend.ensures.1 in
    let some : 0 < c.args.rest.places = omega arith in
    let value : to_z w8 (of_z w8 c.index.result) ≡ c.index.result = omega (arith, ints) in
    let room : c.args.place < length c.args.indices = omega arith in
    let first = first_more c.args.indices c.args.place _ _ room (value ∙ c.index.ensures) in
    let below : c.loop-step.step < choices c.args.rest = omega arith in
    let Kinds : ℕ → Integral → Type 0 = λ k. Continues c.args.family (take c.args.place c.args.indices ++ index_at c.args.rest k ∷ []) (after c.args.rest k) in
    let order = c.args.limit.order in
    let most = c.args.limit.most in
    let here = IsCause-same order most c.loop-step.found.items _ (Kinds c.loop-step.step) (λ x. (Continues-along c.args.family _ _ _ _ first c.after.ensures x).0) _ c.in_err-extend.ensures.many in
    let all = IsCause-more order most c.args.found.now.items c.loop-step.found.items c.loop-step.step (choices c.args.rest) Kinds below c.loop-step.invariant _ here in
    rw (p.1, p.2) (IsCause-same order most c.args.found.now.items (IsBefore (choices c.args.rest) Kinds) (Continues c.args.family (take c.args.place c.args.indices) c.args.rest)
    (λ x. (Continues-step c.args.rest some c.args.family (take c.args.place c.args.indices) x).0) _ all)

pub returns-clause-members : goal.returns-clause-members
returns-clause-members t c =
    let some : 0 < c.args.rest.places = omega arith in
    let Kinds : ℕ → Integral → Type 0 = λ k. Continues c.args.family (take c.args.place c.args.indices ++ index_at c.args.rest k ∷ []) (after c.args.rest k) in
    let all : c.loop-step.step ≡ choices c.args.rest = omega arith in
    Gains-same c.args.found.now.items c.loop-step.found.items (IsBefore (choices c.args.rest) Kinds) (Continues c.args.family (take c.args.place c.args.indices) c.args.rest)
    (Continues-step c.args.rest some c.args.family (take c.args.place c.args.indices))
    (subst (λ (n : ℕ). Gains c.args.found.now.items c.loop-step.found.items (IsBefore n Kinds)) all c.loop-step.invariant)
