-- What the reader of momenta keeps while it goes through the tokens. Private contracts speak of it.
use Rattle.std.specs.Prelude.{◌≡◌, ℕ, ◌+◌, ◌*◌, ◌^◌, ◌<◌, ◌≤◌, nat_le, ◌&&◌, if◌then◌else◌, Bool, List, [], ◌∷◌, ◌++◌, Option, Some, None, map, length, fold, option_and_then}
use Rattle.text_tokens.specs.Tokens.{Sign, sign_token, Token, tokens_of, number, name, plus, minus, star}
use Rattle.text_tokens.specs.Faults.{tokens_in, IsBlameless}
use Rattle.momentum_sums.specs.Momenta.{Terms, terms_tokens, sum_of, IsMomentumText, momentum_blame}
use Rattle.momentum_sums.specs.declared.momentum_reader.Expected.{Expected}
use Rattle.momentum_sums.specs.declared.momentum_reader.Expected.TheVariants as expected
use Rattle.momentum_sums.specs.declared.momentum_reader.Tally.{Tally}
use Rattle.momentum_sums.specs.declared.momentum_reader.Progress.{Progress}

-- what may come after a token
abbrev pub follows : Expected → Token → Option Expected
follows expected.Start plus = Some expected.Term
follows expected.Start minus = Some expected.Term
follows expected.Start (number ds) = Some expected.Star
follows expected.Start (name w) = Some expected.Sign
follows expected.Term (number ds) = Some expected.Star
follows expected.Term (name w) = Some expected.Sign
follows expected.Star star = Some expected.Name
follows expected.Name (name w) = Some expected.Sign
follows expected.Sign plus = Some expected.Term
follows expected.Sign minus = Some expected.Term
follows e t = None

abbrev pub step : Option Expected → Token → Option Expected
step o t = option_and_then (λ e. follows e t) o

-- what may come after all these tokens, if a momentum may begin with them
abbrev pub run : List Token → Option Expected
run ts = fold step (Some expected.Start) ts

-- A momentum before its last term: nothing, a sign, or terms and a sign.
pub data Lead : Type 0 where
  empty : Lead
  lone : Sign → Lead
  after : Terms → Sign → Lead

abbrev pub lead_tokens : Lead → List Token
lead_tokens empty = []
lead_tokens (lone s) = sign_token s ∷ []
lead_tokens (after m s) = terms_tokens m ++ sign_token s ∷ []

-- of which form the tokens are before what is expected
abbrev pub IsReached : Expected → List Token → Type 0
IsReached expected.Start ts = ts ≡ []
IsReached expected.Term ts = (l : Lead) × (ts ≡ lead_tokens l)
IsReached expected.Star ts = (l : Lead) × (ds : List ℕ) × (ts ≡ lead_tokens l ++ number ds ∷ [])
IsReached expected.Name ts = (l : Lead) × (ds : List ℕ) × (ts ≡ lead_tokens l ++ number ds ∷ star ∷ [])
IsReached expected.Sign ts = (m : Terms) × (ts ≡ terms_tokens m)

-- what a name's terms so far add and take
abbrev pub tally_of : List Token → List ℕ → Tally
tally_of before w = record { added = (sum_of before w).added; taken = (sum_of before w).taken }

-- What the reader keeps of the tokens before: the sign and the factor of the next name, and the tally of
-- each name.
pub record IsTallied (names : List (List ℕ)) (before : List Token) (is_negative : Bool) (factor : ℕ) (kept : List Tally) : Type 0 where
  pub sign : (w : List ℕ) → (sum_of before w).is_negative ≡ is_negative
  pub scale : (w : List ℕ) → (sum_of before w).factor ≡ factor
  pub small : factor ≤ 1000
  pub added : (w : List ℕ) → (sum_of before w).added ≤ 1000 * length before
  pub taken : (w : List ℕ) → (sum_of before w).taken ≤ 1000 * length before
  pub tallies : kept ≡ map (tally_of before) names

-- that, and what it expects next
pub record HasRead (names : List (List ℕ)) (before : List Token) (p : Progress) (kept : List Tally) : Type 0 where
  pub reached : IsReached p.expected before
  pub ran : run before ≡ Some p.expected
  pub tallied : IsTallied names before p.is_negative p.factor kept

-- a tally with one term more
abbrev pub with_term : Bool → ℕ → Tally → Tally
with_term is_negative factor t =
    if is_negative then record t { taken = t.taken + factor } else record t { added = t.added + factor }

abbrev pub has_small_sum : Tally → Bool
has_small_sum t = nat_le t.added (t.taken + 1000) && nat_le t.taken (t.added + 1000)

-- the tallies leave room for a term
abbrev pub HasRoom : Tally → Type 0
HasRoom t = (t.added < 2 ^ 63) × (t.taken < 2 ^ 63)

-- the text is in the grammar, none of its tokens is blamed, and these are its names' tallies
pub record IsTalliedText (names : List (List ℕ)) (text : List ℕ) (kept : List Tally) : Type 0 where
  pub grammar : IsMomentumText (tokens_in (tokens_of text))
  pub blameless : IsBlameless (momentum_blame names) [] (tokens_in (tokens_of text))
  pub tallies : kept ≡ map (tally_of (tokens_in (tokens_of text))) names
