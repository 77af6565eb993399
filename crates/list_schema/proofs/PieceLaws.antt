-- What the pieces of a text are.
use Rattle.std.proofs.Common.{◌≡◌, ℕ, Bool, true, false, eqb, cond, not, List, [], ◌∷◌, length, ◌≤◌, refl, ap, sym, ◌∙◌, arith}
use Rattle.std.specs.List.{list_all}
use Rattle.std.proofs.lemmas.Bool.Decides.{nat_tests}
use Rattle.yaml_text.specs.Lines.{Bytes, onto_first}
use Rattle.list_schema.specs.Indices.{pieces}
use Rattle.list_schema.specs.Laws.{joined, has_comma}
use Rattle.list_schema.proofs.Cutting.{at_least_one}

joined_comma : (all : List Bytes) → 1 ≤ length all → joined ([] ∷ all) ≡ 44 ∷ joined all
joined_comma [] h = absurd (omega arith)
joined_comma (p ∷ ps) h = refl

joined_onto : (b : ℕ) (all : List Bytes) → 1 ≤ length all → joined (onto_first b all) ≡ b ∷ joined all
joined_onto b [] h = absurd (omega arith)
joined_onto b (p ∷ []) h = refl
joined_onto b (p ∷ q ∷ ps) h = refl

joined_step : (t : Bool) (b : ℕ) (all : List Bytes) → eqb b 44 ≡ t → 1 ≤ length all → joined (cond t ([] ∷ all) (onto_first b all)) ≡ b ∷ joined all
joined_step true b all e h = joined_comma all h ∙ ap (λ x. x ∷ joined all) (let same : b ≡ 44 = grind (arith, nat_tests) in sym same)
joined_step false b all e h = joined_onto b all h

pub joined_pieces : (text : Bytes) → joined (pieces text) ≡ text
unfolding pieces
joined_pieces [] = refl
joined_pieces (b ∷ bs) = joined_step (eqb b 44) b (pieces bs) refl (at_least_one bs) ∙ ap (λ rest. b ∷ rest) (joined_pieces bs)

no_comma_step : (t : Bool) (b : ℕ) (all : List Bytes) → eqb b 44 ≡ t → list_all (λ piece. not (has_comma piece)) all ≡ true
    → list_all (λ piece. not (has_comma piece)) (cond t ([] ∷ all) (onto_first b all)) ≡ true
no_comma_step true b all e h = h
no_comma_step false b [] e h = rw e refl
no_comma_step false b (p ∷ ps) e h = rw e h

pub no_comma : (text : Bytes) → list_all (λ piece. not (has_comma piece)) (pieces text) ≡ true
unfolding pieces
no_comma [] = refl
no_comma (b ∷ bs) = no_comma_step (eqb b 44) b (pieces bs) refl (no_comma bs)
