-- What a sink was given. The project's own.
use Rattle.std.specs.Prelude.{◌≡◌, ℕ, List, ◌++◌, length, refl}
use Rattle.std.specs.Coded.{Coded, code_by, coded×, coded_ℕ, coded_list}

-- the bytes written, and how many of them the last successful flush found
pub record Stream : Type 0 where
  pub bytes : List ℕ
  pub flushed : ℕ

abbrev pub stream_code : Coded Stream
stream_code = code_by (List ℕ × ℕ) (coded× (coded_list coded_ℕ) coded_ℕ) (λ s. (s.bytes, s.flushed)) (λ p. record { bytes = p.0; flushed = p.1 }) (λ _. refl)

-- the stream with these bytes behind those written
abbrev pub appended : List ℕ → Stream → Stream
appended bytes stream = record { bytes = stream.bytes ++ bytes; flushed = stream.flushed }

-- the stream after a flush
abbrev pub all_flushed : Stream → Stream
all_flushed stream = record { bytes = stream.bytes; flushed = length stream.bytes }

-- a flush has found all bytes
abbrev pub IsFlushed : Stream → Type 0
IsFlushed stream = stream.flushed ≡ length stream.bytes
