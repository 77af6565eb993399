-- A term of the last integral is added to the last term, and any other is appended.
use Rattle.std.proofs.Common.{◌≡◌, ◌≢◌, ◌<◌, ◌-◌, ◌%◌, length, get_or, arith, sym, ap, ◌∙◌}
use Rattle.ibp_generator.proofs.CollectingLemmas.{IsAdded-pushed, IsAdded-raised, other_last, same_last}
use Rattle.ibp_generator.proofs.collecting.add_sorted.Goals as goal
use Rattle.ibp_generator.proofs.collecting.add_sorted.Goals.{else-length-gt0-via-then-length-gt0+else-is_eq, else-length-gt0-via-else-length-gt0}

pub returns-then-is_eq : goal.returns-then-is_eq
returns-then-is_eq c =
    let old = c.args.kept.now.items in
    let t = c.args.term.now in
    let positive : 0 < c.args.modulus.now = omega (arith, c.requires.residue) in
    let some : 0 < length old = omega (arith, c.if-length-gt0.true, c.len-length.ensures) in
    let size : c.len-length.result ≡ length old = omega (arith, c.len-length.ensures) in
    let same : (get_or old (length old - 1) t).integral ≡ t.integral =
    same_last c.args.order old c.index.result.now t c.is_eq.result c.compare.result some (c.index.ensures ∙ ap (λ n. get_or old (n - 1) c.index.result.now) size) c.compare.ensures c.is_eq.ensures c.if-is_eq.true in
    IsAdded-raised c.args.modulus.now c.args.order positive old c.add_to_last.new.kept.items t some c.requires.descend c.requires.below same c.add_to_last.ensures

pub returns : goal.returns
returns c =
    let old = c.args.kept.now.items in
    let t = c.args.term.now in
    let positive : 0 < c.args.modulus.now = omega (arith, c.requires.residue) in
    let size : c.len-length.result ≡ length old = omega (arith, c.len-length.ensures) in
    let differs : 0 < length old → (get_or old (length old - 1) t).integral ≢ t.integral =
    λ some. elim c.else-length-gt0.branch [
      | else-length-gt0-via-then-length-gt0+else-is_eq w ↦ other_last c.args.order old w.index.result.now t w.is_eq.result w.compare.result some (w.index.ensures ∙ ap (λ n. get_or old (n - 1) w.index.result.now) size) w.compare.ensures w.is_eq.ensures w.if-is_eq.false
      | else-length-gt0-via-else-length-gt0 w ↦ absurd (omega (arith, some, w.if-length-gt0.false, c.len-length.ensures))
    ] in
    IsAdded-pushed c.args.modulus.now c.args.order positive old c.push.new.self.items t c.requires.descend c.requires.below c.requires.residue c.requires.no_less differs c.in_ok-push.ensures.items
