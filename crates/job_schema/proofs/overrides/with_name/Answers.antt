-- The tests are those of the definition, at the name in the word.
use Rattle.std.proofs.Common.{◌≡◌, true, false, sym, ap, ◌∙◌}
use Rattle.job_schema.specs.Overrides.{is_parameter, is_repeated, name_in}
use Rattle.job_schema.proofs.overrides.with_name.Goals as goal

pub returns-clause-value : goal.returns-clause-value
returns-clause-value c =
    let known : is_parameter c.args.names.now (name_in c.args.word.now) ≡ true = ap (is_parameter c.args.names.now) (sym c.name_in-name.ensures) ∙ sym c.if-not-is_parameter.ensures in
    let fresh : is_repeated c.args.earlier.now (name_in c.args.word.now) ≡ false = ap (is_repeated c.args.earlier.now) (sym c.name_in-name.ensures) ∙ sym c.if-is_repeated.ensures in
    rw (known, fresh) c.with_value.ensures.value
