use Rattle.std.proofs.Common.{◌≡◌, ℕ, List, Bool, true, false, refl}
use Rattle.clap.specs.ValueTests.{is_unsigned_in}
use Rattle.clap.specs.Values.{Accepts}
use Rattle.clap.specs.declared.builder.value_parser.ValueParser.TheVariants as vp
use Rattle.clap.proofs.ValueTestLemmas.{accepts-Accepts, Accepts-accepts}
use Rattle.command_line.proofs.options.number_in.Goals as goal

-- what isn't such a number isn't taken for one
refused : (low high : ℕ) (text : List ℕ) → (Accepts false (vp.Unsigned low high) text → ⊥) → is_unsigned_in low high text ≡ false
refused low high text unfit = go (is_unsigned_in low high text) refl
  where
    go : (b : Bool) → is_unsigned_in low high text ≡ b → is_unsigned_in low high text ≡ false
    go true is = absurd (unfit (accepts-Accepts false (vp.Unsigned low high) text is))
    go false is = is

pub returns-in-Ok : goal.returns-in-Ok
returns-in-Ok c =
    let p = c.in-Ok.ensures.value.0 in
    (Accepts-accepts false (vp.Unsigned c.args.low c.args.high) c.args.text.now (p.0.0, p.0.1, rw (← p.1) c.if-low-number.true, rw (← p.1) c.if-number-high.true), p.1)

pub returns-in_default-3 : goal.returns-in_default-3
returns-in_default-3 c = refused c.args.low c.args.high c.args.text.now (λ accepted. c.in_default.ensures.value.0 (accepted.0, accepted.1))
