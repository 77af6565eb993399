-- The laws of the readings of momenta.
use Rattle.std.proofs.Common.{◌≡◌, ℕ, List, [], sym, ◌∙◌}
use Rattle.std.specs.Prelude.{ℤ}
use Rattle.text_tokens.specs.declared.faults.TextKind.{TextKind}
use Rattle.text_tokens.specs.declared.faults.TextKind.TheVariants as text_kind
use Rattle.text_tokens.specs.Tokens.{tokens_of}
use Rattle.text_tokens.proofs.FaultLemmas.{one_fault, no_fault}
use Rattle.momentum_sums.specs.Momenta.{IsMomentumText, IsMomentum, IsMomentumFault, momentum_blame}

pub one_momentum : (names : List (List ℕ)) (text : List ℕ) (cs ds : List ℤ) → IsMomentum names text cs → IsMomentum names text ds → cs ≡ ds
one_momentum names text cs ds h k = h.sums ∙ sym k.sums

pub one_momentum_fault : (names : List (List ℕ)) (text : List ℕ) (a b : ℕ) (j k : TextKind) → IsMomentumFault names text a j → IsMomentumFault names text b k → (a ≡ b) × (j ≡ k)
one_momentum_fault names text a b j k h g = one_fault IsMomentumText (momentum_blame names) text_kind.BadMomentum _ [] (tokens_of text) a b j k h g

pub no_momentum_fault : (names : List (List ℕ)) (text : List ℕ) (cs : List ℤ) (at : ℕ) (kind : TextKind) → IsMomentum names text cs → IsMomentumFault names text at kind → ⊥
no_momentum_fault names text cs at kind h f =
    no_fault IsMomentumText (momentum_blame names) text_kind.BadMomentum _ [] (tokens_of text) at kind h.grammar h.blameless f
