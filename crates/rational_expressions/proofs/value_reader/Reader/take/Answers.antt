use Rattle.std.proofs.Common.{◌≡◌, ◌∙◌, sym, refl, true, false, subst}
use Rattle.std.specs.Prelude.{slice_range}
use Rattle.text_tokens.specs.Pieces.{token_of}
use Rattle.rational_expressions.specs.ValueItems.{accepts_of, HasDone}
use Rattle.rational_expressions.proofs.ValueTurns.{accepts_is, token_refused, token_blamed, token_taken}
use Rattle.rational_expressions.proofs.value_reader.Reader.take.Goals as goal

pub returns-then-not-accepts-clause-fault : goal.returns-then-not-accepts-clause-fault
returns-then-not-accepts-clause-fault c = (
  refl,
  λ before later h.
      let t = token_of c.args.piece.kind c.args.piece.at (slice_range c.args.bytes.now c.args.piece.at c.args.piece.end) in
      let no : accepts_of c.args.self.now.mode c.args.self.now.outer.items c.args.piece.kind ≡ false = cc in
      token_refused _ before later c.args.self.now h t (sym (accepts_is _ before c.args.self.now h c.args.piece.kind c.args.piece.at _) ∙ no),
)

pub returns-in_ok-perform-in-Ok-clause-ok : goal.returns-in_ok-perform-in-Ok-clause-ok
returns-in_ok-perform-in-Ok-clause-ok c = λ before later h.
    let t = token_of c.args.piece.kind c.args.piece.at (slice_range c.args.bytes.now c.args.piece.at c.args.piece.end) in
    let accepted : accepts_of c.args.self.now.mode c.args.self.now.outer.items c.args.piece.kind ≡ true = cc in
    let action = c.in-Ok.ensures.ok before later h in
    let done = subst (λ a. HasDone a c.args.self.now c.perform.new.self) action.1 c.in_ok-perform-in-Ok.ensures in
    let taken = token_taken _ before later c.args.self.now c.perform.new.self h t (sym (accepts_is _ before c.args.self.now h c.args.piece.kind c.args.piece.at _) ∙ accepted) action.0 done in
    (taken.0, action.0, taken.1)

pub returns-in-Err-clause-fault : goal.returns-in-Err-clause-fault
returns-in-Err-clause-fault c = (
  refl,
  λ before later h.
      let t = token_of c.args.piece.kind c.args.piece.at (slice_range c.args.bytes.now c.args.piece.at c.args.piece.end) in
      let accepted : accepts_of c.args.self.now.mode c.args.self.now.outer.items c.args.piece.kind ≡ true = cc in
      token_blamed _ before later c.args.self.now h t _ (sym (accepts_is _ before c.args.self.now h c.args.piece.kind c.args.piece.at _) ∙ accepted) (c.in-Err.ensures.fault before later h),
)
