-- The word has an equals sign.
use Rattle.std.proofs.Common.{◌≡◌, ◌≢◌, ◌==◌, ℕ, false, length, sym, ap, ◌∙◌, arith}
use Rattle.std.proofs.lemmas.Bool.Decides.{nat_tests}
use Rattle.job_schema.specs.Overrides.{name_length}
use Rattle.job_schema.proofs.overrides.with_word.Goals as goal

apart : (m n : ℕ) → m ≢ n → (m == n) ≡ false
apart m n differ = grind (arith, nat_tests)

pub returns-clause-value : goal.returns-clause-value
returns-clause-value c =
    let text = c.args.word.now.text in
    let counted : c.name_length.result ≡ name_length text = c.name_length.ensures.value ∙ ap name_length c.text.ensures.value in
    let differ : name_length text ≢ length text = λ e. c.if-name_length-text.false (counted ∙ e ∙ sym (ap length c.text-2.ensures.value)) in
    rw (apart (name_length text) (length text) differ) c.with_name.ensures.value
