-- Pieces that are written one behind the other.
use Rattle.std.proofs.Common.{◌≡◌, ℕ, ◌+◌, ◌-◌, List, ◌++◌, length, take, drop, Option, None, Some, option_map, refl, sym, ◌∙◌, ap, append_assoc, arith, length-drop, length-append}
use Rattle.std.proofs.Math.Seq.{take-add, take-append-add, take-length}
use Rattle.std.proofs.lemmas.List.{take-append-le}
use Rattle.kira_outside.specs.Stream.{Stream, appended}
use Rattle.table_text.specs.Sending.{IsPrefixSent}

-- bytes appended in two pieces
pub appended-appended : (first second : List ℕ) (stream : Option Stream) → option_map (appended second) (option_map (appended first) stream) ≡ option_map (appended (first ++ second)) stream
appended-appended first second None = refl
appended-appended first second (Some stream) = ap (λ bytes. Some (record { bytes = bytes; flushed = stream.flushed })) (append_assoc stream.bytes first second)

-- the rest of a slice from a place on, as the program makes it, is the rest of its list
pub rest-drop : (at : ℕ) (bytes : List ℕ) → take (length bytes - at) (drop at bytes) ≡ drop at bytes
rest-drop at bytes = ap (λ n. take n (drop at bytes)) (sym (length-drop at bytes)) ∙ take-length (drop at bytes)

-- a piece of so many bytes was written from a place on
pub appended-take-add : (at count : ℕ) (bytes : List ℕ) (before : Option Stream) → option_map (appended (take count (take (length bytes - at) (drop at bytes)))) (option_map (appended (take at bytes)) before) ≡ option_map (appended (take (at + count) bytes)) before
appended-take-add at count bytes before =
    ap (λ rest. option_map (appended (take count rest)) (option_map (appended (take at bytes)) before)) (rest-drop at bytes)
    ∙ appended-appended (take at bytes) (take count (drop at bytes)) before
    ∙ ap (λ front. option_map (appended front) before) (sym (take-add at count bytes))

-- a prefix of the first piece is one of both
pub prefix-first : (first second : List ℕ) (before after : Option Stream) → IsPrefixSent first before after → IsPrefixSent (first ++ second) before after
prefix-first first second before after sent = record {
  count = sent.count;
  within = omega (arith, sent.within, length-append first second);
  written = sent.written ∙ ap (λ front. option_map (appended front) before) (sym (take-append-le sent.count first second sent.within));
}

-- the first piece, and a prefix of the second
pub prefix-second : (first second : List ℕ) (before middle after : Option Stream) → middle ≡ option_map (appended first) before → IsPrefixSent second middle after → IsPrefixSent (first ++ second) before after
prefix-second first second before middle after whole sent = record {
  count = length first + sent.count;
  within = omega (arith, sent.within, length-append first second);
  written =
      sent.written ∙ ap (option_map (appended (take sent.count second))) whole
      ∙ appended-appended first (take sent.count second) before
      ∙ ap (λ front. option_map (appended front) before) (sym (take-append-add first second sent.count));
}
