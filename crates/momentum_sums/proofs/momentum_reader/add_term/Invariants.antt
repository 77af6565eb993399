use Rattle.std.proofs.Common.{◌≡◌, ◌≤◌, ◌<◌, ℕ, false, true, cond, [], get_or}
use Rattle.std.specs.Option.{MatchOption}
use Rattle.std.specs.Str.{bytes_eq}
use Rattle.momentum_sums.specs.MomentumReader.{with_term}
use Rattle.momentum_sums.specs.declared.momentum_reader.Tally.{Tally}
use Rattle.momentum_sums.proofs.momentum_reader.add_term.Given as goal

abbrev pub invariant-loop-i : goal.invariant-loop-i
invariant-loop-i l = record {
  done : (k : ℕ) (t : Tally) → k < l.i → get_or l.tallies k t ≡ cond (bytes_eq (get_or l.names k []) l.word) (with_term l.is_negative l.factor (get_or l.fn.tallies k t)) (get_or l.fn.tallies k t);
  left : (k : ℕ) (t : Tally) → l.i ≤ k → get_or l.tallies k t ≡ get_or l.fn.tallies k t;
  found : MatchOption l.found ((k : ℕ) → k < l.i → bytes_eq (get_or l.names k []) l.word ≡ false) (λ t. (k : ℕ) × (k < l.i) × (bytes_eq (get_or l.names k []) l.word ≡ true) × (t ≡ get_or l.tallies k t));
}
