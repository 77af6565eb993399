-- Words that are taken one after another.
use Rattle.std.proofs.Common.{◌≡◌, ◌+◌, ◌<◌, ℕ, List, [], ◌∷◌, ◌++◌, Err, take, drop, length, get_or, sym, ap, ◌∙◌}
use Rattle.std.proofs.lemmas.List.{at_drop_more}
use Rattle.yaml_text.specs.Lines.{Bytes}
use Rattle.input_schema.specs.declared.faults.SchemaError.{SchemaError}
use Rattle.input_schema.specs.declared.faults.SchemaError.TheVariants.{Fault, OutOfMemory}
use Rattle.input_schema.specs.Readings.{Outcome, Is, Refuses, ◌>>=◌}
use Rattle.job_schema.specs.declared.points.PointInput.{PointInput}
use Rattle.job_schema.specs.Overridden.{Override}
use Rattle.job_schema.specs.Overrides.{with_word, with_words}

-- a word at fault, behind words that are not
pub spoilt_by : (names : List Bytes) (words : List Override) (i : ℕ) (point : PointInput) (word : Override) (whole : Outcome PointInput) (e : SchemaError) → i < length words → word ≡ get_or words i word
    → whole ≡ with_words names (take i words) point (drop i words) → Refuses (Is (with_word names (take i words) point word)) e → Refuses (Is whole) e
spoilt_by names words i point word whole (Fault f) h read is fault =
    is ∙ at_drop_more (with_words names (take i words) point) words i word h
    ∙ ap (λ w. with_word names (take i words) point w >>= (λ p. with_words names (take i words ++ w ∷ []) p (drop (i + 1) words))) (sym read)
    ∙ ap (λ o. o >>= (λ p. with_words names (take i words ++ word ∷ []) p (drop (i + 1) words))) fault
spoilt_by names words i point word whole OutOfMemory h read is fault = tt
