-- What a sink holds after bytes were sent to it. The project's own.
use Rattle.std.specs.Prelude.{◌≡◌, ℕ, ◌≤◌, List, length, take, Option, option_map}
use Rattle.kira_outside.specs.Stream.{Stream, appended, all_flushed}

-- the stream with these bytes behind those written, all flushed
abbrev pub sent : List ℕ → Stream → Stream
sent bytes stream = all_flushed (appended bytes stream)

-- a prefix of the bytes was written behind those of before
pub record IsPrefixSent (bytes : List ℕ) (before after : Option Stream) : Type 0 where
  pub count : ℕ
  pub within : count ≤ length bytes
  pub written : after ≡ option_map (appended (take count bytes)) before
