-- A text that is read from left to right, without a fault so far.
use Rattle.std.proofs.Common.{◌≡◌, ℕ, None, List, [], ◌∷◌, ◌++◌, inl, inr, refl, sym, ◌∙◌, append-nil, append_assoc}
use Rattle.text_tokens.specs.declared.faults.TextKind.{TextKind}
use Rattle.text_tokens.specs.Tokens.{Token, Placed}
use Rattle.text_tokens.specs.Faults.{tokens_in, CanGoOn, Blame, IsBlameless, IsAtFault, IsFirstFault}

-- of all tokens `before` were read and `rest` are left
pub record HasCome (IsText : List Token → Type 0) (blame : Blame) (bad : TextKind) (size : ℕ) (all : List Placed) (before : List Token) (rest : List Placed) : Type 0 where
  pub split : before ++ tokens_in rest ≡ tokens_in all
  pub fault : (at : ℕ) (kind : TextKind) → IsFirstFault IsText blame bad size before rest at kind → IsFirstFault IsText blame bad size [] all at kind
  pub blameless : IsBlameless blame before (tokens_in rest) → IsBlameless blame [] (tokens_in all)

pub come_start : (IsText : List Token → Type 0) (blame : Blame) (bad : TextKind) (size : ℕ) (all : List Placed) → HasCome IsText blame bad size all [] all
come_start IsText blame bad size all = record { split = refl; fault = λ at kind f. f; blameless = λ b. b }

pub come_more : (IsText : List Token → Type 0) (blame : Blame) (bad : TextKind) (size : ℕ) (all : List Placed) (before : List Token) (p : Placed) (after : List Placed) →
    CanGoOn IsText (before ++ p.token ∷ []) → blame before p.token (tokens_in after) ≡ None →
    HasCome IsText blame bad size all before (p ∷ after) → HasCome IsText blame bad size all (before ++ p.token ∷ []) after
come_more IsText blame bad size all before p after go none h = record {
  split = append_assoc before (p.token ∷ []) (tokens_in after) ∙ h.split;
  fault = λ at kind f. h.fault at kind (inr (go, none, f));
  blameless = λ b. h.blameless (none, b);
}

pub fault_at : (IsText : List Token → Type 0) (blame : Blame) (bad : TextKind) (size : ℕ) (all : List Placed) (before : List Token) (p : Placed) (after : List Placed) (kind : TextKind) →
    IsAtFault IsText blame bad before p.token (tokens_in after) kind →
    HasCome IsText blame bad size all before (p ∷ after) → IsFirstFault IsText blame bad size [] all p.at kind
fault_at IsText blame bad size all before p after kind f h = h.fault p.at kind (inl (refl, f))

pub fault_at_end : (IsText : List Token → Type 0) (blame : Blame) (bad : TextKind) (size : ℕ) (all : List Placed) (before : List Token) →
    (IsText before → ⊥) → HasCome IsText blame bad size all before [] → IsFirstFault IsText blame bad size [] all size bad
fault_at_end IsText blame bad size all before f h = h.fault size bad (f, refl, refl)

pub all_read : (IsText : List Token → Type 0) (blame : Blame) (bad : TextKind) (size : ℕ) (all : List Placed) (before : List Token) →
    HasCome IsText blame bad size all before [] → (before ≡ tokens_in all) × IsBlameless blame [] (tokens_in all)
all_read IsText blame bad size all before h = (sym (append-nil before) ∙ h.split, h.blameless tt)
