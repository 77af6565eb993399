use Rattle.std.proofs.Common.{refl, List, [], ◌∷◌, ◌++◌, subst}
use Rattle.std.specs.List.{AllZip}
use Rattle.job_equations.specs.Equations.{AreSymmetriesOf}
use Rattle.equation_tests.proofs.lists.push_family.Goals as goal

-- One more item on both sides.
AllZip-push : {A B : Type 0} (R : A → B → Type 0) (xs : List A) (ys : List B) (x : A) (y : B) → AllZip R xs ys → R x y → AllZip R (xs ++ x ∷ []) (ys ++ y ∷ [])
AllZip-push R [] [] x y h one = (one, h)
AllZip-push R [] (b ∷ ys) x y h one = absurd h
AllZip-push R (a ∷ xs) [] x y h one = absurd h
AllZip-push R (a ∷ xs) (b ∷ ys) x y h one = (h.0, AllZip-push R xs ys x y h.1 one)

-- src/tests.rt:255:1
pub returns-clause-pairs : goal.returns-clause-pairs
returns-clause-pairs c =
    let one : AreSymmetriesOf c.args.basis c.args.found = subst (AreSymmetriesOf c.args.basis) c.as_slice.ensures (c.if-not-are_symmetries_of.ensures refl) in
    rw c.in_ok-push.ensures.items (rw c.in_ok-push-2.ensures.items (AllZip-push AreSymmetriesOf c.args.bases.now.items c.args.symmetries.now.items c.args.basis c.args.found c.requires.pairs one))
