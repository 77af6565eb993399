-- A text has at most one first fault, and none where no token is at fault.
use Rattle.std.proofs.Common.{◌≡◌, ℕ, List, [], ◌∷◌, ◌++◌, None, inl, inr, refl, sym, subst, ◌∙◌, append_assoc, append-nil}
use Rattle.std.proofs.lemmas.Option.{same_Some, none-some}
use Rattle.text_tokens.specs.declared.faults.TextKind.{TextKind}
use Rattle.text_tokens.specs.Tokens.{Token, Placed}
use Rattle.text_tokens.specs.Faults.{tokens_in, CanGoOn, Blame, IsBlameless, IsAtFault, no_text, blamed, IsFirstFault}

-- a token that is at fault is no token without a fault
not_both : (IsText : List Token → Type 0) (blame : Blame) (bad kind : TextKind) (before : List Token) (t : Token) (later : List Token) →
    IsAtFault IsText blame bad before t later kind → CanGoOn IsText (before ++ t ∷ []) → blame before t later ≡ None → ⊥
not_both IsText blame bad kind before t later (no_text stop) go none = stop go
not_both IsText blame bad kind before t later (blamed k on is) go none = none-some k (sym none ∙ is)

same_kind : (IsText : List Token → Type 0) (blame : Blame) (bad j k : TextKind) (before : List Token) (t : Token) (later : List Token) →
    IsAtFault IsText blame bad before t later j → IsAtFault IsText blame bad before t later k → j ≡ k
same_kind IsText blame bad j k before t later (no_text stop) (no_text halt) = refl
same_kind IsText blame bad j k before t later (no_text stop) (blamed q go is) = absurd (stop go)
same_kind IsText blame bad j k before t later (blamed q go is) (no_text stop) = absurd (stop go)
same_kind IsText blame bad j k before t later (blamed q go is) (blamed r on was) = same_Some _ _ (sym is ∙ was)

pub one_fault : (IsText : List Token → Type 0) (blame : Blame) (bad : TextKind) (size : ℕ) (before : List Token) (rest : List Placed) (a b : ℕ) (j k : TextKind) →
    IsFirstFault IsText blame bad size before rest a j → IsFirstFault IsText blame bad size before rest b k → (a ≡ b) × (j ≡ k)
one_fault IsText blame bad size before [] a b j k h g = (h.1 ∙ sym g.1, h.2 ∙ sym g.2)
one_fault IsText blame bad size before (p ∷ rest) a b j k (inl h) (inl g) =
    (h.0 ∙ sym g.0, same_kind IsText blame bad j k before p.token (tokens_in rest) h.1 g.1)
one_fault IsText blame bad size before (p ∷ rest) a b j k (inl h) (inr g) = absurd (not_both IsText blame bad j before p.token (tokens_in rest) h.1 g.0 g.1)
one_fault IsText blame bad size before (p ∷ rest) a b j k (inr h) (inl g) = absurd (not_both IsText blame bad k before p.token (tokens_in rest) g.1 h.0 h.1)
one_fault IsText blame bad size before (p ∷ rest) a b j k (inr h) (inr g) = one_fault IsText blame bad size (before ++ p.token ∷ []) rest a b j k h.2 g.2

-- a text without a fault has no first one
pub no_fault : (IsText : List Token → Type 0) (blame : Blame) (bad : TextKind) (size : ℕ) (before : List Token) (rest : List Placed) (at : ℕ) (kind : TextKind) →
    IsText (before ++ tokens_in rest) → IsBlameless blame before (tokens_in rest) → IsFirstFault IsText blame bad size before rest at kind → ⊥
no_fault IsText blame bad size before [] at kind text b f = f.0 (subst IsText (append-nil before) text)
no_fault IsText blame bad size before (p ∷ rest) at kind text b (inl f) =
    not_both IsText blame bad kind before p.token (tokens_in rest) f.1
    (tokens_in rest, subst IsText (sym (append_assoc before (p.token ∷ []) (tokens_in rest))) text) b.0
no_fault IsText blame bad size before (p ∷ rest) at kind text b (inr f) =
    no_fault IsText blame bad size (before ++ p.token ∷ []) rest at kind
    (subst IsText (sym (append_assoc before (p.token ∷ []) (tokens_in rest))) text) b.1 f.2
