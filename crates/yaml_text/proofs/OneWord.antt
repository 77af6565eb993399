-- A text without a special byte is one scalar.
use Rattle.std.proofs.Common.{◌≡◌, ℕ, suc, zero, Bool, true, false, not, ◌&&◌, ◌||◌, eqb, ltb, [], ◌∷◌, length, None, Ok, refl, ap, sym, ◌∙◌, arith}
use Rattle.std.specs.List.{list_any, list_all}
use Rattle.std.specs.Prelude.{count_by}
use Rattle.std.proofs.lemmas.Bool.{true≢false}
use Rattle.std.proofs.lemmas.Bool.Decides.{nat_tests}
use Rattle.std.proofs.lemmas.List.{take_all, drop_all}
use Rattle.yaml_text.specs.declared.token.Token.TheVariants.{Scalar}
use Rattle.yaml_text.specs.Lines.{Bytes, before_comment, trim_end, bare, line_length, has_tab, has_other, has_escape, has_quote, is_mark, fault_of, kept, line_at, lines_from, lines}
use Rattle.yaml_text.specs.Words.{plain_length, is_whole}
use Rattle.yaml_text.specs.Tokens.{piece, plain, token, behind, is_indicator, scalar_fault}
use Rattle.yaml_text.specs.Flow.{scalar_at, scalar, fits, is_flow, value, flow}
use Rattle.yaml_text.specs.Blocks.{single, block, reading}
use Rattle.yaml_text.specs.Laws.{special_bytes, is_ordinary, is_word}
use Rattle.yaml_text.proofs.Cutting.{cut_last}

-- what a byte is not
pub record Ordinary (b : ℕ) : Type 0 where
  pub tab : eqb b 9 ≡ false
  pub lf : eqb b 10 ≡ false
  pub space : eqb b 32 ≡ false
  pub low : ltb b 32 ≡ false
  pub high : ltb 126 b ≡ false
  pub mark : eqb b 33 ≡ false
  pub quote : eqb b 34 ≡ false
  pub hash : eqb b 35 ≡ false
  pub percent : eqb b 37 ≡ false
  pub anchor : eqb b 38 ≡ false
  pub single_quote : eqb b 39 ≡ false
  pub alias : eqb b 42 ≡ false
  pub comma : eqb b 44 ≡ false
  pub dash : eqb b 45 ≡ false
  pub point : eqb b 46 ≡ false
  pub colon : eqb b 58 ≡ false
  pub greater : eqb b 62 ≡ false
  pub question : eqb b 63 ≡ false
  pub at : eqb b 64 ≡ false
  pub open_list : eqb b 91 ≡ false
  pub backslash : eqb b 92 ≡ false
  pub close_list : eqb b 93 ≡ false
  pub back_quote : eqb b 96 ≡ false
  pub open_map : eqb b 123 ≡ false
  pub bar : eqb b 124 ≡ false
  pub close_map : eqb b 125 ≡ false

or_left : (a b : Bool) → (a || b) ≡ false → a ≡ false
or_left true b h = absurd (true≢false h)
or_left false b h = refl

or_right : (a b : Bool) → (a || b) ≡ false → b ≡ false
or_right true b h = absurd (true≢false h)
or_right false b h = h

not_false : (a : Bool) → not a ≡ true → a ≡ false
not_false true h = absurd (true≢false (sym h))
not_false false h = refl

and_left : (a b : Bool) → (a && b) ≡ true → a ≡ true
and_left true b h = refl
and_left false b h = h

and_right : (a b : Bool) → (a && b) ≡ true → b ≡ true
and_right true b h = h
and_right false b h = absurd (true≢false (sym h))

ordinary : (b : ℕ) → is_ordinary b ≡ true → Ordinary b
ordinary b h =
    let out = not_false _ h in
    let bounds = or_left (ltb b 33 || ltb 126 b) (list_any (λ s. eqb b s) special_bytes) out in
    let below : ltb b 33 ≡ false = or_left (ltb b 33) (ltb 126 b) bounds in
    let above : ltb 126 b ≡ false = or_right (ltb b 33) (ltb 126 b) bounds in
    let s0 = or_right (ltb b 33 || ltb 126 b) (list_any (λ s. eqb b s) special_bytes) out in
    let s1 = or_right (eqb b 33) (list_any (λ s. eqb b s) (34 ∷ 35 ∷ 37 ∷ 38 ∷ 39 ∷ 42 ∷ 44 ∷ 45 ∷ 46 ∷ 58 ∷ 62 ∷ 63 ∷ 64 ∷ 91 ∷ 92 ∷ 93 ∷ 96 ∷ 123 ∷ 124 ∷ 125 ∷ [])) s0 in
    let s2 = or_right (eqb b 34) (list_any (λ s. eqb b s) (35 ∷ 37 ∷ 38 ∷ 39 ∷ 42 ∷ 44 ∷ 45 ∷ 46 ∷ 58 ∷ 62 ∷ 63 ∷ 64 ∷ 91 ∷ 92 ∷ 93 ∷ 96 ∷ 123 ∷ 124 ∷ 125 ∷ [])) s1 in
    let s3 = or_right (eqb b 35) (list_any (λ s. eqb b s) (37 ∷ 38 ∷ 39 ∷ 42 ∷ 44 ∷ 45 ∷ 46 ∷ 58 ∷ 62 ∷ 63 ∷ 64 ∷ 91 ∷ 92 ∷ 93 ∷ 96 ∷ 123 ∷ 124 ∷ 125 ∷ [])) s2 in
    let s4 = or_right (eqb b 37) (list_any (λ s. eqb b s) (38 ∷ 39 ∷ 42 ∷ 44 ∷ 45 ∷ 46 ∷ 58 ∷ 62 ∷ 63 ∷ 64 ∷ 91 ∷ 92 ∷ 93 ∷ 96 ∷ 123 ∷ 124 ∷ 125 ∷ [])) s3 in
    let s5 = or_right (eqb b 38) (list_any (λ s. eqb b s) (39 ∷ 42 ∷ 44 ∷ 45 ∷ 46 ∷ 58 ∷ 62 ∷ 63 ∷ 64 ∷ 91 ∷ 92 ∷ 93 ∷ 96 ∷ 123 ∷ 124 ∷ 125 ∷ [])) s4 in
    let s6 = or_right (eqb b 39) (list_any (λ s. eqb b s) (42 ∷ 44 ∷ 45 ∷ 46 ∷ 58 ∷ 62 ∷ 63 ∷ 64 ∷ 91 ∷ 92 ∷ 93 ∷ 96 ∷ 123 ∷ 124 ∷ 125 ∷ [])) s5 in
    let s7 = or_right (eqb b 42) (list_any (λ s. eqb b s) (44 ∷ 45 ∷ 46 ∷ 58 ∷ 62 ∷ 63 ∷ 64 ∷ 91 ∷ 92 ∷ 93 ∷ 96 ∷ 123 ∷ 124 ∷ 125 ∷ [])) s6 in
    let s8 = or_right (eqb b 44) (list_any (λ s. eqb b s) (45 ∷ 46 ∷ 58 ∷ 62 ∷ 63 ∷ 64 ∷ 91 ∷ 92 ∷ 93 ∷ 96 ∷ 123 ∷ 124 ∷ 125 ∷ [])) s7 in
    let s9 = or_right (eqb b 45) (list_any (λ s. eqb b s) (46 ∷ 58 ∷ 62 ∷ 63 ∷ 64 ∷ 91 ∷ 92 ∷ 93 ∷ 96 ∷ 123 ∷ 124 ∷ 125 ∷ [])) s8 in
    let s10 = or_right (eqb b 46) (list_any (λ s. eqb b s) (58 ∷ 62 ∷ 63 ∷ 64 ∷ 91 ∷ 92 ∷ 93 ∷ 96 ∷ 123 ∷ 124 ∷ 125 ∷ [])) s9 in
    let s11 = or_right (eqb b 58) (list_any (λ s. eqb b s) (62 ∷ 63 ∷ 64 ∷ 91 ∷ 92 ∷ 93 ∷ 96 ∷ 123 ∷ 124 ∷ 125 ∷ [])) s10 in
    let s12 = or_right (eqb b 62) (list_any (λ s. eqb b s) (63 ∷ 64 ∷ 91 ∷ 92 ∷ 93 ∷ 96 ∷ 123 ∷ 124 ∷ 125 ∷ [])) s11 in
    let s13 = or_right (eqb b 63) (list_any (λ s. eqb b s) (64 ∷ 91 ∷ 92 ∷ 93 ∷ 96 ∷ 123 ∷ 124 ∷ 125 ∷ [])) s12 in
    let s14 = or_right (eqb b 64) (list_any (λ s. eqb b s) (91 ∷ 92 ∷ 93 ∷ 96 ∷ 123 ∷ 124 ∷ 125 ∷ [])) s13 in
    let s15 = or_right (eqb b 91) (list_any (λ s. eqb b s) (92 ∷ 93 ∷ 96 ∷ 123 ∷ 124 ∷ 125 ∷ [])) s14 in
    let s16 = or_right (eqb b 92) (list_any (λ s. eqb b s) (93 ∷ 96 ∷ 123 ∷ 124 ∷ 125 ∷ [])) s15 in
    let s17 = or_right (eqb b 93) (list_any (λ s. eqb b s) (96 ∷ 123 ∷ 124 ∷ 125 ∷ [])) s16 in
    let s18 = or_right (eqb b 96) (list_any (λ s. eqb b s) (123 ∷ 124 ∷ 125 ∷ [])) s17 in
    let s19 = or_right (eqb b 123) (list_any (λ s. eqb b s) (124 ∷ 125 ∷ [])) s18 in
    let s20 = or_right (eqb b 124) (list_any (λ s. eqb b s) (125 ∷ [])) s19 in
    let s21 = or_right (eqb b 125) (list_any (λ s. eqb b s) ([])) s20 in
    record {
      tab = grind (arith, nat_tests);
      lf = grind (arith, nat_tests);
      space = grind (arith, nat_tests);
      low = grind (arith, nat_tests);
      high = above;
      mark = or_left (eqb b 33) _ s0;
      quote = or_left (eqb b 34) _ s1;
      hash = or_left (eqb b 35) _ s2;
      percent = or_left (eqb b 37) _ s3;
      anchor = or_left (eqb b 38) _ s4;
      single_quote = or_left (eqb b 39) _ s5;
      alias = or_left (eqb b 42) _ s6;
      comma = or_left (eqb b 44) _ s7;
      dash = or_left (eqb b 45) _ s8;
      point = or_left (eqb b 46) _ s9;
      colon = or_left (eqb b 58) _ s10;
      greater = or_left (eqb b 62) _ s11;
      question = or_left (eqb b 63) _ s12;
      at = or_left (eqb b 64) _ s13;
      open_list = or_left (eqb b 91) _ s14;
      backslash = or_left (eqb b 92) _ s15;
      close_list = or_left (eqb b 93) _ s16;
      back_quote = or_left (eqb b 96) _ s17;
      open_map = or_left (eqb b 123) _ s18;
      bar = or_left (eqb b 124) _ s19;
      close_map = or_left (eqb b 125) _ s20;
    }

-- each byte is ordinary
abbrev pub AllOrdinary : Bytes → Type 0
AllOrdinary [] = Unit {0}
AllOrdinary (b ∷ bs) = Ordinary b × AllOrdinary bs

all_ordinary : (bs : Bytes) → list_all is_ordinary bs ≡ true → AllOrdinary bs
all_ordinary [] h = tt
all_ordinary (b ∷ bs) h = (ordinary b (and_left (is_ordinary b) (list_all is_ordinary bs) h), all_ordinary bs (and_right (is_ordinary b) (list_all is_ordinary bs) h))

-- ---- one line without a comment and without a fault

length_all : (bs : Bytes) → AllOrdinary bs → line_length bs ≡ length bs
length_all [] o = refl
length_all (b ∷ bs) o = rw (o.0.lf, length_all bs o.1) (omega arith)

comment_none : (fresh : Bool) (bs : Bytes) → AllOrdinary bs → before_comment false fresh bs ≡ bs
unfolding before_comment
comment_none fresh [] o = refl
comment_none fresh (b ∷ bs) o = rw (o.0.hash, o.0.quote, comment_none (eqb b 32) bs o.1) refl

trim_none : (bs : Bytes) → AllOrdinary bs → trim_end bs ≡ bs
unfolding trim_end
trim_none [] o = refl
trim_none (b ∷ bs) o = rw (o.0.space, trim_none bs o.1) refl

bare_none : (bs : Bytes) → AllOrdinary bs → bare bs ≡ bs
bare_none bs o = ap trim_end (comment_none true bs o) ∙ trim_none bs o

tab_none : (bs : Bytes) → AllOrdinary bs → has_tab bs ≡ false
tab_none [] o = refl
tab_none (b ∷ bs) o = rw (o.0.tab, tab_none bs o.1) refl

other_none : (bs : Bytes) → AllOrdinary bs → has_other bs ≡ false
other_none [] o = refl
other_none (b ∷ bs) o = rw (o.0.low, o.0.high, other_none bs o.1) refl

escape_none : (bs : Bytes) → AllOrdinary bs → has_escape bs ≡ false
escape_none [] o = refl
escape_none (b ∷ bs) o = rw (o.0.single_quote, o.0.backslash, escape_none bs o.1) refl

quotes_none : (bs : Bytes) → AllOrdinary bs → count_by (λ b. eqb b 34) bs ≡ 0
quotes_none [] o = refl
quotes_none (b ∷ bs) o = rw (o.0.quote, quotes_none bs o.1) refl

quote_none : (bs : Bytes) → AllOrdinary bs → has_quote bs ≡ false
quote_none bs o = rw (escape_none bs o, quotes_none bs o) refl

mark_none : (b : ℕ) (bs : Bytes) → AllOrdinary (b ∷ bs) → is_mark (b ∷ bs) ≡ false
mark_none b bs o = rw (o.0.dash, o.0.point) refl

fault_none : (b : ℕ) (bs : Bytes) → AllOrdinary (b ∷ bs) → fault_of (b ∷ bs) ≡ None
unfolding fault_of
fault_none b bs o = rw (tab_none (b ∷ bs) o, other_none (b ∷ bs) o, quote_none (b ∷ bs) o, mark_none b bs o) refl

line_of_word : (b : ℕ) (bs : Bytes) → AllOrdinary (b ∷ bs) → line_at 1 (b ∷ bs) ≡ record { number = 1; indent = 0; text = b ∷ bs }
unfolding line_at
line_of_word b bs o = rw o.0.space refl

lines_of_word : (b : ℕ) (bs : Bytes) → AllOrdinary (b ∷ bs) → lines (b ∷ bs) ≡ Ok (record { number = 1; indent = 0; text = b ∷ bs } ∷ [])
unfolding lines lines_from kept
lines_of_word b bs o =
    ap (lines_from 1 []) (cut_last (b ∷ bs) (omega arith) (length_all (b ∷ bs) o))
    ∙ rw (bare_none (b ∷ bs) o, fault_none b bs o, line_of_word b bs o) refl

-- ---- one piece

plain_all : (bs : Bytes) → AllOrdinary bs → plain_length bs ≡ length bs
unfolding plain_length
plain_all [] o = refl
plain_all (b ∷ bs) o = rw (o.0.comma, o.0.open_list, o.0.close_list, o.0.open_map, o.0.close_map, o.0.quote, o.0.colon, plain_all bs o.1) refl

whole_word : (b : ℕ) (bs : Bytes) → AllOrdinary (b ∷ bs) → is_whole (b ∷ bs) ≡ true
whole_word b [] o = rw o.0.colon refl
whole_word b (c ∷ bs) o = whole_word c bs o.1

plain_word : (b : ℕ) (bs : Bytes) → AllOrdinary (b ∷ bs) → plain (b ∷ bs) ≡ (Scalar (record { plain = true; text = b ∷ bs }), [])
plain_word b bs o =
    rw (plain_all (b ∷ bs) o, take_all (length (b ∷ bs)) (b ∷ bs) (omega arith), trim_none (b ∷ bs) o, whole_word b bs o, drop_all (length (b ∷ bs)) (b ∷ bs) (omega arith)) refl

piece_word : (b : ℕ) (bs : Bytes) → AllOrdinary (b ∷ bs) → piece (b ∷ bs) ≡ (Scalar (record { plain = true; text = b ∷ bs }), [])
unfolding piece
piece_word b bs o = rw (o.0.quote, o.0.open_list, o.0.close_list, o.0.open_map, o.0.close_map, o.0.comma) (plain_word b bs o)

token_word : (b : ℕ) (bs : Bytes) → AllOrdinary (b ∷ bs) → token (b ∷ bs) ≡ Scalar (record { plain = true; text = b ∷ bs })
token_word b bs o = ap (λ p. p.0) (piece_word b bs o)

behind_word : (b : ℕ) (bs : Bytes) → AllOrdinary (b ∷ bs) → behind (b ∷ bs) ≡ []
behind_word b bs o = ap (λ p. p.1) (piece_word b bs o)

-- ---- one scalar

indicator_none : (b : ℕ) (bs : Bytes) → AllOrdinary (b ∷ bs) → is_indicator (b ∷ bs) ≡ false
indicator_none b bs o = rw (o.0.anchor, o.0.alias, o.0.mark, o.0.percent, o.0.at, o.0.back_quote, o.0.question) refl

fault_of_word : (b : ℕ) (bs : Bytes) → AllOrdinary (b ∷ bs) → scalar_fault (record { plain = true; text = b ∷ bs }) ≡ None
unfolding scalar_fault
fault_of_word b bs o = rw (indicator_none b bs o, o.0.bar, o.0.greater) refl

nothing_left : (n : ℕ) → fits n [] [] ≡ true
unfolding fits
nothing_left zero = refl
nothing_left (suc n) = refl

flow_of_word : (b : ℕ) (bs : Bytes) → AllOrdinary (b ∷ bs) → is_flow (b ∷ bs) ≡ true
unfolding is_flow fits
flow_of_word b bs o = rw (token_word b bs o, behind_word b bs o) (nothing_left (length bs))

scalar_of_word : (b : ℕ) (bs : Bytes) → AllOrdinary (b ∷ bs) → scalar 1 (record { plain = true; text = b ∷ bs }) ≡ Ok (scalar_at 1 (b ∷ bs))
unfolding scalar
scalar_of_word b bs o = rw (fault_of_word b bs o) refl

value_of_word : (depth b : ℕ) (bs : Bytes) → AllOrdinary (b ∷ bs) → value 1 depth (b ∷ bs) ≡ Ok (scalar_at 1 (b ∷ bs), [])
unfolding value
value_of_word zero b bs o = rw (token_word b bs o, behind_word b bs o, scalar_of_word b bs o) refl
value_of_word (suc depth) b bs o = rw (token_word b bs o, behind_word b bs o, scalar_of_word b bs o) refl

read_of_word : (depth b : ℕ) (bs : Bytes) → AllOrdinary (b ∷ bs) → flow 1 depth (b ∷ bs) ≡ Ok (scalar_at 1 (b ∷ bs))
unfolding flow
read_of_word depth b bs o = rw (indicator_none b bs o, flow_of_word b bs o, value_of_word depth b bs o) refl

block_of_word : (depth b : ℕ) (bs : Bytes) → AllOrdinary (b ∷ bs) → block (suc depth) (record { number = 1; indent = 0; text = b ∷ bs } ∷ []) ≡ Ok (scalar_at 1 (b ∷ bs))
unfolding block single
block_of_word depth b bs o = rw (o.0.dash, token_word b bs o) (read_of_word (suc depth) b bs o)

pub word_reads : (bytes : Bytes) → is_word bytes ≡ true → reading bytes ≡ Ok (scalar_at 1 bytes)
unfolding reading
word_reads [] h = absurd (true≢false (sym h))
word_reads (b ∷ bs) h =
    let o = all_ordinary (b ∷ bs) (and_right true (list_all is_ordinary (b ∷ bs)) h) in
    rw (lines_of_word b bs o) (block_of_word 15 b bs o)
