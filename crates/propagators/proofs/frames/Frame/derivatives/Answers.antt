use Rattle.std.proofs.Common.{◌≡◌, ◌≤◌, ◌+◌, ◌*◌, ◌/◌, ◌%◌, ◌∷◌, [], length, get_or, ap, sym, ◌∙◌, arith, length-append}
use Rattle.propagators.specs.Basis.{momenta_of}
use Rattle.propagators.proofs.FrameLemmas.{place_back, one_more, last_made}
use Rattle.propagators.proofs.frames.Frame.derivatives.Goals as goal

pub derivative-requires-clause-loop_within : goal.derivative-requires-clause-loop_within
derivative-requires-clause-loop_within c =
    let m = c.self.inside.loops + c.externals.result in
    let first : c.loop-place.place / c.len-width.result / (c.self.inside.loops + c.externals.result) + 1 ≤ c.self.inside.loops = place_back c.self.inside.loops (c.self.inside.loops + c.externals.result) c.len-width.result c.loop-place.place c.loop-place-test.true in
    let same : c.self.inside.loops ≡ c.args.self.now.loops = ap (λ b. b.loops) c.self.view_is in
    omega arith

pub loop-place-preserved : goal.loop-place-preserved
loop-place-preserved c =
    let now = c.args.self.now in
    let items = c.in_ok-push.ensures.items in
    record {
      size = omega (arith, ap length items, length-append c.loop-place.derivatives.items (c.in_ok-combination.field-0 ∷ []), c.loop-place.invariant.size);
      each = one_more c.args.self.now c.loop-place.derivatives.items c.push.new.self.items c.loop-place.place (length c.args.self.now.denominators) (momenta_of c.args.self.now) c.in_ok-combination.field-0
        c.loop-place.invariant.size items c.loop-place.invariant.each
        (last_made c.args.self.now _ c.len-width.result (c.self.inside.loops + c.externals.result) c.loop-place.place c.index-denominator.result.now c.in_ok-form.form c.in_ok-combination.field-0
        c.loop-place-test.true
        (c.len-width.ensures ∙ c.self.inside.denominators.ok.0 ∙ ap (λ b. length b.denominators) c.self.view_is)
        (ap (λ e. c.self.inside.loops + e) c.externals.ensures.value ∙ ap momenta_of c.self.view_is)
        (c.index-denominator.ensures ∙ ap (λ b. get_or b.denominators (c.loop-place.place % c.len-width.result) c.index-denominator.result.now) c.self.view_is)
        c.in_ok-form.ensures.value c.in_ok-combination.ensures.is);
    }
