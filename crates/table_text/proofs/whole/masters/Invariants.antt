use Rattle.std.proofs.Common.{◌≡◌, take}
use Rattle.std.specs.List.{flat_map}
use Rattle.table_text.specs.TableText.{form_of, shown_integrals, zeros_of}
use Rattle.table_text.proofs.whole.masters.Given as goal

abbrev pub invariant-loop-integral : goal.invariant-loop-integral
invariant-loop-integral l =
    l.shown.items ≡ flat_map (λ x. shown_integrals (form_of (zeros_of l.zeros) l.table x)) (take l.integral-index l.selection)
