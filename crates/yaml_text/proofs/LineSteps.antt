-- One line more, at the definition of all lines.
use Rattle.std.proofs.Common.{◌≡◌, ℕ, ◌+◌, length, [], ◌∷◌, List, Ok, Err, refl, ap, ◌∙◌, arith}
use Rattle.yaml_text.specs.declared.fault.YamlError.{YamlError}
use Rattle.yaml_text.specs.Outcomes.{Outcome}
use Rattle.yaml_text.specs.Lines.{Bytes, Line, bare, fault_of, kept, judged, cut, lines_from, lines}

pub line_judged : {all : Outcome (List Line)} (number : ℕ) (found more : List Line) (rest raw behind : Bytes) → cut rest ≡ raw ∷ cut behind
    → all ≡ lines_from number found (cut rest) → judged number (fault_of (bare raw)) (kept number (bare raw) found) ≡ Ok more
    → all ≡ lines_from (number + 1) more (cut behind)
unfolding lines_from
line_judged number found more rest raw behind first so_far fine = so_far ∙ ap (lines_from number found) first ∙ rw fine refl

pub line_refused : {all : Outcome (List Line)} (number : ℕ) (found : List Line) (rest raw behind : Bytes) (fault : YamlError) → cut rest ≡ raw ∷ cut behind
    → all ≡ lines_from number found (cut rest) → judged number (fault_of (bare raw)) (kept number (bare raw) found) ≡ Err fault
    → all ≡ Err fault
unfolding lines_from
line_refused number found rest raw behind fault first so_far wrong = so_far ∙ ap (lines_from number found) first ∙ rw wrong refl

pub lines_begin : (bytes : Bytes) → lines bytes ≡ lines_from 1 [] (cut bytes)
unfolding lines
lines_begin bytes = refl

pub lines_end : {all : Outcome (List Line)} (number : ℕ) (found : List Line) (rest : Bytes) → length rest ≡ 0 → all ≡ lines_from number found (cut rest) → all ≡ Ok found
unfolding lines_from cut
lines_end number found [] none so_far = so_far
lines_end number found (b ∷ rest) none so_far = absurd (omega arith)
