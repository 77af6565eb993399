use Rattle.field_word.proofs.Euclid.{IsEuclid}
use Rattle.field_word.proofs.Modulus.inverse.Given as goal

abbrev pub invariant-loop-remainder : goal.invariant-loop-remainder
invariant-loop-remainder l = IsEuclid l.p l.x l.divisor l.remainder l.last l.next l.is_negative

abbrev pub decreases-loop-remainder : goal.decreases-loop-remainder
decreases-loop-remainder l = l.remainder
