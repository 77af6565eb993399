-- How a text is read from left to right, and which fault of it comes first. The project's own.
use Rattle.std.specs.Prelude.{◌≡◌, ℕ, Option, Some, None, List, [], ◌∷◌, ◌++◌, map, ◌⊎◌}
use Rattle.text_tokens.specs.declared.faults.TextKind.{TextKind}
use Rattle.text_tokens.specs.declared.faults.TextFault.{TextFault}
use Rattle.text_tokens.specs.declared.faults.TextError.{TextError}
use Rattle.text_tokens.specs.declared.faults.TextError.TheVariants.{Fault, OutOfMemory}
use Rattle.text_tokens.specs.Tokens.{Token, Placed}

abbrev pub tokens_in : List Placed → List Token
tokens_in = map (λ p. p.token)

-- some text of the grammar begins with these tokens
abbrev pub CanGoOn : (List Token → Type 0) → List Token → Type 0
CanGoOn IsText front = (rest : List Token) × IsText (front ++ rest)

-- What a token is blamed for besides the grammar, given the tokens before it and after it.
abbrev pub Blame : Type 0
Blame = List Token → Token → List Token → Option TextKind

-- no token of `after` is blamed, where `before` stands before them
abbrev pub IsBlameless : Blame → List Token → List Token → Type 0
IsBlameless blame before [] = Unit {0}
IsBlameless blame before (t ∷ after) =
    (blame before t after ≡ None) × IsBlameless blame (before ++ t ∷ []) after

-- the token t is at fault: the grammar can't go on with it, which is the fault `bad`, or it can, and
-- the token is blamed
pub data IsAtFault (IsText : List Token → Type 0) (blame : Blame) (bad : TextKind) (before : List Token) (t : Token) (after : List Token) : TextKind → Type 0 where
  no_text : (CanGoOn IsText (before ++ t ∷ []) → ⊥) → IsAtFault IsText blame bad before t after bad
  blamed : (kind : TextKind) → CanGoOn IsText (before ++ t ∷ []) → blame before t after ≡ Some kind → IsAtFault IsText blame bad before t after kind

-- The first fault of a text, of whose tokens `before` are not at fault: where it stands, and of which
-- kind it is. A text that ends too early has the fault `bad` at its length.
abbrev pub IsFirstFault : (List Token → Type 0) → Blame → TextKind → ℕ → List Token → List Placed → ℕ → TextKind → Type 0
IsFirstFault IsText blame bad size before [] at kind =
    (IsText before → ⊥) × (at ≡ size) × (kind ≡ bad)
IsFirstFault IsText blame bad size before (p ∷ after) at kind =
    ((at ≡ p.at) × IsAtFault IsText blame bad before p.token (tokens_in after) kind)
    ⊎ (CanGoOn IsText (before ++ p.token ∷ []) × (blame before p.token (tokens_in after) ≡ None)
    × IsFirstFault IsText blame bad size (before ++ p.token ∷ []) after at kind)

-- what holds of a fault, where the error is one
abbrev pub IfFault : TextError → (TextFault → Type 0) → Type 0
IfFault (Fault f) P = P f
IfFault OutOfMemory P = Unit {0}
