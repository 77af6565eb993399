use Rattle.std.proofs.Common.{◌≡◌, ◌<◌, ℕ, false, true, [], get_or, length, arith}
use Rattle.std.specs.Str.{bytes_eq}
use Rattle.text_tokens.specs.Names.{is_among}
use Rattle.text_tokens.proofs.NameLemmas.{MatchOption_weaker, not_among}
use Rattle.momentum_sums.proofs.momentum_reader.add_term.Goals as goal

pub returns-clause-found : goal.returns-clause-found
returns-clause-found c =
    MatchOption_weaker c.loop-i.found
    ((k : ℕ) → k < c.loop-i.i → bytes_eq (get_or c.args.names.now k []) c.args.word.now ≡ false)
    (is_among c.args.names.now c.args.word.now ≡ false)
    (λ t. (k : ℕ) × (k < c.loop-i.i) × (bytes_eq (get_or c.args.names.now k []) c.args.word.now ≡ true) × (t ≡ get_or c.loop-i.tallies k t))
    (λ t. (k : ℕ) × (k < length c.args.names.now) × (bytes_eq (get_or c.args.names.now k []) c.args.word.now ≡ true) × (t ≡ get_or c.loop-i.tallies k t))
    (λ h. not_among _ _ (λ k lt. h k (omega arith)))
    (λ t h. (h.0, omega (arith, h.1), h.2, h.3))
    c.loop-i.invariant.found
