use Rattle.std.proofs.Common.{◌≤◌, ◌⊎◌, inl, inr, [], length, sym, arith}
use Rattle.std.proofs.lemmas.List.{take_rest}
use Rattle.sparse_row.proofs.RowValues.{IsTerms-from_list, list_from_IsTerms, below_from_IsTerms}
use Rattle.sparse_row.proofs.TermMerge.{Merging, Merging-none, Merging-Greater, Merging-Less, Merging-Equal, Merging-rest, Merging-all}
use Rattle.sparse_row.proofs.terms.sum_with_multiple.Goals as goal
use Rattle.sparse_row.proofs.terms.sum_with_multiple.Goals.{In_ok-push_multiples, then-loop-i-test+else-j-others, else-loop-i-test}

pub loop-i-init : goal.loop-i-init
loop-i-init c =
    let p = c.args.modulus.now in
    let left = IsTerms-from_list p c.args.order c.args.terms.now c.requires.list c.requires.below in
    let right = IsTerms-from_list p c.args.order c.args.others.now c.requires.other_list c.requires.other_below in
    record {
      within = omega arith;
      other_within = omega arith;
      merging = rw c.in_ok-sum.ensures.items (Merging-none p c.args.order c.args.factor c.args.terms.now c.args.others.now left right);
    }

pub loop-i-preserved-in-Greater : goal.loop-i-preserved-in-Greater
loop-i-preserved-in-Greater c = record {
  within = omega arith;
  other_within = c.loop-i.invariant.other_within;
  merging = rw c.in_ok-push-in-Greater.ensures.items (Merging-Greater c.args.modulus.now c.args.order c.args.factor c.args.terms.now c.args.others.now c.loop-i.i c.loop-i.j c.index-terms-i.result c.index-others-j.result c.loop-i.sum.items (omega arith) (omega arith) c.index-terms-i.is c.index-others-j.is c.loop-i.invariant.merging (sym c.in-Greater.ensures));
}

pub loop-i-preserved-in-Equal : goal.loop-i-preserved-in-Equal
loop-i-preserved-in-Equal c = record {
  within = omega arith;
  other_within = omega arith;
  merging = rw (c.in_ok-push_nonzero-in-Equal.ensures, c.sum_of_terms.ensures) (Merging-Equal c.args.modulus.now c.args.order c.args.factor c.args.terms.now c.args.others.now c.loop-i.i c.loop-i.j c.index-terms-i.result c.index-others-j.result c.loop-i.sum.items (omega arith) (omega arith) c.index-terms-i.is c.index-others-j.is c.loop-i.invariant.merging (sym c.in-Equal.ensures));
}

pub loop-i-preserved : goal.loop-i-preserved
loop-i-preserved c = record {
  within = c.loop-i.invariant.within;
  other_within = omega arith;
  merging = rw (c.in_ok-push_nonzero-in-Less.ensures, c.multiple_of.ensures) (Merging-Less c.args.modulus.now c.args.order c.args.factor c.args.terms.now c.args.others.now c.loop-i.i c.loop-i.j c.index-terms-i.result c.index-others-j.result c.loop-i.sum.items (omega arith) (omega arith) c.index-terms-i.is c.index-others-j.is c.loop-i.invariant.merging (sym c.in-Less.ensures));
}

-- what is merged when all is read
merged : (c : In_ok-push_multiples) → Merging c.args.modulus.now c.args.order c.args.factor c.push_multiples.new.sum.items c.args.terms.now [] c.args.others.now []
merged c =
    let one : (length c.args.terms.now ≤ c.loop-i.i) ⊎ (length c.args.others.now ≤ c.loop-i.j) = elim c.loop-i-test.branch [
      | then-loop-i-test+else-j-others w ↦ inr (omega arith)
      | else-loop-i-test w ↦ inl (omega arith)
    ] in
    rw (c.in_ok-push_multiples.ensures, c.in_ok-extend_from_slice.ensures.items, take_rest c.args.terms.now c.loop-i.i, take_rest c.args.others.now c.loop-i.j) (Merging-rest c.args.modulus.now c.args.order c.args.factor c.args.terms.now c.args.others.now c.loop-i.i c.loop-i.j c.loop-i.sum.items one c.loop-i.invariant.merging)

pub returns-clause-list : goal.returns-clause-list
returns-clause-list c = list_from_IsTerms c.args.modulus.now c.args.order c.push_multiples.new.sum.items (merged c).terms

pub returns-clause-below : goal.returns-clause-below
returns-clause-below c = below_from_IsTerms c.args.modulus.now c.args.order c.push_multiples.new.sum.items (merged c).terms

pub returns-clause-sum : goal.returns-clause-sum
returns-clause-sum c = Merging-all c.args.modulus.now c.args.order c.args.factor c.push_multiples.new.sum.items c.args.terms.now c.args.others.now (omega (arith, c.requires.residue)) (merged c)
