-- How many coefficients a momentum over the independent momenta has.
use Rattle.std.proofs.Common.{◌≡◌, ◌+◌, ℕ, List, length, Option, Some, None, arith}
use Rattle.std.proofs.lemmas.List.Edits.{length-remove}
use Rattle.kinematics_schema.specs.declared.content.Conserved.{Conserved}
use Rattle.kinematics_schema.specs.Independent.{independents, HasCounts}

-- as many as the image of the conserved momentum
pub length-image : {A : Type 0} (c : Conserved) (momenta : List A) → HasCounts (Some c) (length momenta) → length c.image ≡ length (independents (Some c) momenta)
length-image c momenta h = let others = length-remove momenta c.place h.0 in let counted = h.1 in omega arith

-- as many for each two lists of the same length
pub length-independents : {A B : Type 0} (conserved : Option Conserved) (xs : List A) (ys : List B) →
    length xs ≡ length ys → HasCounts conserved (length ys) → HasCounts conserved (length xs) → length (independents conserved xs) ≡ length (independents conserved ys)
length-independents None xs ys e h k = e
length-independents (Some c) xs ys e h k = let one = length-remove xs c.place k.0 in let other = length-remove ys c.place h.0 in omega arith
