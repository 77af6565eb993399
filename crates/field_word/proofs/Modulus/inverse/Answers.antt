use Rattle.std.proofs.Common.{arith, subst, refl}
use Rattle.std.proofs.lemmas.Nat.Gcd.{same_from_IsGcd}
use Rattle.field_word.proofs.Euclid.{IsEuclid, step, gcd_of, gcd_is_1, inverse_is_opposite, inverse_is_last}
use Rattle.field_word.proofs.Modulus.inverse.Goals as goal

pub loop-remainder-preserved : goal.loop-remainder-preserved
loop-remainder-preserved c = step _ _ _ _ _ _ _ (omega arith) c.loop-remainder.invariant

pub returns-then-divisor-ne1-clause-divisor : goal.returns-then-divisor-ne1-clause-divisor
returns-then-divisor-ne1-clause-divisor c =
    rw (← c.self.view_is) (gcd_of _ _ _ _ _ _ _ c.loop-remainder-test.false c.loop-remainder.invariant)

pub returns-then-divisor-ne1-clause-ok : goal.returns-then-divisor-ne1-clause-ok
returns-then-divisor-ne1-clause-ok c = (
  λ h. absurd (cc),
  λ one. absurd (c.if-divisor-ne1.true (same_from_IsGcd _ _ _ _ (returns-then-divisor-ne1-clause-divisor c) one)),
)

pub returns-then-is_negative-clause-ok : goal.returns-then-is_negative-clause-ok
returns-then-is_negative-clause-ok c = (
  λ h. rw (← c.self.view_is) (gcd_is_1 _ _ _ _ _ _ _ c.loop-remainder-test.false c.if-divisor-ne1.false c.loop-remainder.invariant),
  λ h. refl,
)

pub returns-then-is_negative-clause-inverse : goal.returns-then-is_negative-clause-inverse
returns-then-is_negative-clause-inverse c =
    let end = subst (IsEuclid _ _ _ _ _ _) c.if-is_negative.true c.loop-remainder.invariant in
    rw (← c.self.view_is) (inverse_is_opposite _ _ _ _ _ _ c.self.invariant.from_3 c.if-divisor-ne1.false end)

pub returns-else-is_negative-clause-ok : goal.returns-else-is_negative-clause-ok
returns-else-is_negative-clause-ok c = (
  λ h. rw (← c.self.view_is) (gcd_is_1 _ _ _ _ _ _ _ c.loop-remainder-test.false c.if-divisor-ne1.false c.loop-remainder.invariant),
  λ h. refl,
)

pub returns-else-is_negative-clause-inverse : goal.returns-else-is_negative-clause-inverse
returns-else-is_negative-clause-inverse c =
    let end = subst (IsEuclid _ _ _ _ _ _) c.if-is_negative.false c.loop-remainder.invariant in
    rw (← c.self.view_is) (inverse_is_last _ _ _ _ _ _ c.self.invariant.from_3 c.if-divisor-ne1.false end)
