-- What the forms in memory are seen as. The project's own.
use Rattle.std.specs.Prelude.{◌≡◌, ℕ, ◌+◌, ◌-◌, ◌^◌, ◌<◌, ◌⊎◌, List, map, length, min, Contains, refl}
use Rattle.std.specs.Coded.{Coded, code_by, coded×, coded_ℕ, coded_list}
use Rattle.std.specs.FinMap as finite
use Rattle.kira_outside.specs.Faults.{one_more}
use Rattle.kira_outside.specs.Held.{Held}
use Rattle.kira_outside.specs.Stream.{Stream, stream_code}
use Rattle.kira_outside.specs.declared.memory_files.Entry.{Entry}

-- files in memory: what they hold, the numbers of the calls that fail, the calls made and the faults
pub record FilesInMemory : Type 0 where
  pub held : Held
  pub failing : List ℕ
  pub calls : ℕ
  pub faults : ℕ

-- these may be the names of all loads: the calls that were made are as many, up to the last value of their count
abbrev pub CountsLoads : FilesInMemory → List (List ℕ) → Type 0
CountsLoads files names = files.calls ≡ min (length names) (2 ^ 64 - 1)

abbrev pub files_in_memory_code : Coded FilesInMemory
files_in_memory_code =
    code_by (Held × (List ℕ × (ℕ × ℕ))) (coded× (finite.code (coded_list coded_ℕ) (coded_list coded_ℕ)) (coded× (coded_list coded_ℕ) (coded× coded_ℕ coded_ℕ)))
    (λ s. (s.held, (s.failing, (s.calls, s.faults)))) (λ p. record { held = p.0; failing = p.1.0; calls = p.1.1.0; faults = p.1.1.1 }) (λ _. refl)

-- a sink in memory: what it was given, the numbers of the calls that fail, the bytes that one write takes at most, the bytes that there is room for, the calls made and the faults
pub record SinkInMemory : Type 0 where
  pub stream : Stream
  pub failing : List ℕ
  pub piece : ℕ
  pub room : ℕ
  pub calls : ℕ
  pub faults : ℕ

abbrev pub sink_in_memory_code : Coded SinkInMemory
sink_in_memory_code =
    code_by (Stream × (List ℕ × (ℕ × (ℕ × (ℕ × ℕ))))) (coded× stream_code (coded× (coded_list coded_ℕ) (coded× coded_ℕ (coded× coded_ℕ (coded× coded_ℕ coded_ℕ)))))
    (λ s. (s.stream, (s.failing, (s.piece, (s.room, (s.calls, s.faults))))))
    (λ p. record { stream = p.0; failing = p.1.0; piece = p.1.1.0; room = p.1.1.1.0; calls = p.1.1.1.1.0; faults = p.1.1.1.1.1 }) (λ _. refl)

-- an entry as a name with its bytes
abbrev pub named : Entry → List ℕ × List ℕ
named entry = (entry.name, entry.bytes.items)

-- the files of a list of entries; where several have one name, the first counts
abbrev pub held_of : List Entry → Held
held_of entries = finite.from_entries (map named entries)

-- the number of the call that is made now is one of those that fail
abbrev pub IsFailing : List ℕ → ℕ → Type 0
IsFailing failing calls = Contains failing (one_more calls)

-- what a sink was made with stays
pub record IsMadeAs (old new : SinkInMemory) : Type 0 where
  pub failing : new.failing ≡ old.failing
  pub piece : new.piece ≡ old.piece
  pub room : new.room ≡ old.room

-- a write of so many bytes is one that fails, or its piece would pass the room
abbrev pub WriteFails : SinkInMemory → ℕ → Type 0
WriteFails sink count = IsFailing sink.failing sink.calls ⊎ (sink.room < length sink.stream.bytes + min sink.piece count)
