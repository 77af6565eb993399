use Rattle.std.proofs.Common.{◌≡◌, ℕ, ◌+◌, ◌*◌, ◌%◌, ◌^◌, suc, sym, ap, ◌∙◌, arith}
use Rattle.std.proofs.lemmas.Nat.{mul-mod_first}
use Rattle.std.proofs.Math.Nat.{pow-suc}
use Rattle.rational_expressions.proofs.evaluation.power.Goals as goal

-- one factor more
more : (x i p r : ℕ) → r ≡ x ^ i % p → (r * x) % p ≡ x ^ (i + 1) % p
more x i p r h =
    let next : i + 1 ≡ suc i = omega arith in
    ap (λ q. (q * x) % p) h ∙ mul-mod_first (x ^ i) x p ∙ ap (λ q. q % p) (sym (pow-suc x i)) ∙ ap (λ k. x ^ k % p) (sym next)

pub loop-preserved : goal.loop-preserved
loop-preserved c = record {
  value = c.mul-result.ensures.value ∙ more _ c.loop.counter _ _ c.loop.invariant.value;
  below = c.mul-result.ensures.below;
}
