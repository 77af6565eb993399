-- Lemmas on the span of a list of rows: it has 0, the members, sums and multiples, and what is spanned by members.
use Rattle.std.proofs.Common.{◌≡◌, ℕ, ◌+◌, ◌*◌, ◌%◌, ◌<◌, List, map, length, get_or, All, Contains, sym, ap, subst, ◌∙◌, arith}
use Rattle.std.proofs.Math.Nat.{mod-mod, mod-eq_of_lt, zero-mod}
use Rattle.std.proofs.lemmas.List.{length-map, get_or-map}
use Rattle.std.specs.FinMap as map_of
use Rattle.integral_index.specs.declared.Order.TheVariants.{Standard}
use Rattle.integral_index.specs.Integral.{Integral}
use Rattle.sparse_row.specs.Row.{Row, coefficient, IsEmpty}
use Rattle.sparse_row.specs.Span.{combination, InSpan, SameSpan}
use Rattle.sparse_row.proofs.Spans.{at, IsSpanned, AllSpanned, IsSpanned-zero, IsSpanned-add, IsSpanned-times, combination-residues, IsSpanned-at, IsSpanned-trans, AllSpanned-itself}

-- the coefficients of the row are residues
abbrev pub IsBelow : ℕ → Row → Type 0
IsBelow p row = (x : Integral) → coefficient row x < p

-- the rows as functions
abbrev pub functions : List Row → List (Integral → ℕ)
functions rows = map coefficient rows

-- a row to stand past the end of a list
pub no_row : Row
no_row = record { order = Standard; terms = map_of.empty }

pub at-functions : (rows : List Row) (k : ℕ) (d : Row) → k < length rows → at (functions rows) k ≡ coefficient (get_or rows k d)
at-functions rows k d h = get_or-map coefficient rows k d (λ _. 0) h

module _ (p : ℕ) where
  pub IsSpanned-from_row : (rows : List Row) (row : Row) → InSpan p rows row → IsSpanned p (functions rows) (coefficient row)
  IsSpanned-from_row rows row s =
      record { multiplier = s.multiplier; is = λ x. ap (λ u. u % p) (s.is x) ∙ mod-mod _ p }

  pub InSpan-from_function : (rows : List Row) (row : Row) → IsBelow p row → IsSpanned p (functions rows) (coefficient row) → InSpan p rows row
  InSpan-from_function rows row below s =
      record { multiplier = s.multiplier; is = λ x. sym (mod-eq_of_lt (below x)) ∙ s.is x }

  pub AllSpanned-from_rows : (rows others : List Row) → All (InSpan p others) rows → AllSpanned p (functions others) (functions rows)
  AllSpanned-from_rows rows others each k h =
      let within : k < length rows = omega (arith, length-map rows coefficient) in
      let G : (Integral → ℕ) → Type 0 = λ f. IsSpanned p (functions others) f in
      subst G (sym (at-functions rows k no_row within)) (IsSpanned-from_row others (get_or rows k no_row) (each k no_row within))

  pub All_in_span-from_functions : (rows others : List Row) → All (IsBelow p) rows → AllSpanned p (functions others) (functions rows) → All (InSpan p others) rows
  All_in_span-from_functions rows others below each k d h =
      let within : k < length (functions rows) = omega (arith, length-map rows coefficient) in
      let G : (Integral → ℕ) → Type 0 = λ f. IsSpanned p (functions others) f in
      InSpan-from_function others (get_or rows k d) (below k d h) (subst G (at-functions rows k d h) (each k within))

  -- the empty row
  pub InSpan-empty : (rows : List Row) (row : Row) → IsEmpty row → InSpan p rows row
  InSpan-empty rows row empty =
      let s = IsSpanned-zero p (functions rows) in
      record { multiplier = s.multiplier; is = λ x. empty x ∙ sym (zero-mod p) ∙ s.is x }

  -- a member of the list
  pub InSpan-member : (rows : List Row) (row : Row) → IsBelow p row → Contains rows row → InSpan p rows row
  InSpan-member rows row below member =
      let k = member.0 in
      let within : k < length (functions rows) = omega (arith, length-map rows coefficient, member.1) in
      let G : (Integral → ℕ) → Type 0 = λ f. IsSpanned p (functions rows) f in
      InSpan-from_function rows row below
      (subst G (at-functions rows k row member.1 ∙ ap coefficient member.2) (IsSpanned-at p (functions rows) k within))

  -- a row plus a multiple of another
  pub InSpan-add_multiple : (rows : List Row) (row other sum : Row) (factor : ℕ) → ((x : Integral) → coefficient sum x ≡ (coefficient row x + factor * coefficient other x) % p) → InSpan p rows row → InSpan p rows other → InSpan p rows sum
  InSpan-add_multiple rows row other sum factor is s t =
      let whole = IsSpanned-add p (functions rows) (coefficient row) (λ x. factor * coefficient other x) (IsSpanned-from_row rows row s)
      (IsSpanned-times p (functions rows) factor (coefficient other) (IsSpanned-from_row rows other t)) in
      record { multiplier = whole.multiplier; is = λ x. is x ∙ whole.is x }

  -- a multiple of a row
  pub InSpan-multiple : (rows : List Row) (row product : Row) (factor : ℕ) → ((x : Integral) → coefficient product x ≡ (factor * coefficient row x) % p) → InSpan p rows row → InSpan p rows product
  InSpan-multiple rows row product factor is s =
      let whole = IsSpanned-times p (functions rows) factor (coefficient row) (IsSpanned-from_row rows row s) in
      record { multiplier = whole.multiplier; is = λ x. is x ∙ whole.is x }

  -- the residues of the multipliers give the same row
  pub InSpan-residues : (rows : List Row) (row : Row) (s : InSpan p rows row) (x : Integral) → coefficient row x ≡ combination (λ k. s.multiplier k % p) (functions rows) x % p
  InSpan-residues rows row s x = s.is x ∙ sym (combination-residues p s.multiplier (functions rows) x)

  pub InSpan-trans : (rows others : List Row) (row : Row) → All (InSpan p others) rows → InSpan p rows row → InSpan p others row
  InSpan-trans rows others row each s =
      let whole = IsSpanned-trans p (functions rows) (functions others) (coefficient row) (AllSpanned-from_rows rows others each) (IsSpanned-from_row rows row s) in
      record { multiplier = whole.multiplier; is = λ x. s.is x ∙ sym (mod-mod _ p) ∙ sym (ap (λ u. u % p) (s.is x)) ∙ whole.is x }

  pub All_in_span-trans : (rows others more : List Row) → All (InSpan p others) rows → All (InSpan p more) others → All (InSpan p more) rows
  All_in_span-trans rows others more s t k d h = InSpan-trans others more (get_or rows k d) t (s k d h)

  -- one of several rows replaced or left out, as long as each row is still spanned
  pub SameSpan-itself : (rows : List Row) → All (IsBelow p) rows → SameSpan p rows rows
  SameSpan-itself rows below =
      let each = All_in_span-from_functions rows rows below (AllSpanned-itself p (functions rows)) in
      record { forth = each; back = each }

  pub SameSpan-turned : (rows others : List Row) → SameSpan p rows others → SameSpan p others rows
  SameSpan-turned rows others s = record { forth = s.back; back = s.forth }

  pub SameSpan-trans : (rows others more : List Row) → SameSpan p rows others → SameSpan p others more → SameSpan p rows more
  SameSpan-trans rows others more s t =
      record { forth = All_in_span-trans rows others more s.forth t.forth; back = All_in_span-trans more others rows t.back s.back }
