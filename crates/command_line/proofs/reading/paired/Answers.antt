use Rattle.std.proofs.Common.{◌≡◌, ◌∙◌, ◌≤◌, ◌++◌, ℕ, List, [], ◌∷◌, ap, sym, zero, suc, refl, map, drop, length, rules, arith}
use Rattle.std.specs.Prelude.{min}
use Rattle.std.specs.Borrow.{Bor}
use Rattle.std.proofs.lemmas.List.{append-nil, drop_all, drop-map}
use Rattle.clap.specs.Walk.{Text}
use Rattle.command_line.specs.Request.{Placed, placed, seen_word}
use Rattle.command_line.proofs.reading.paired.Goals as goal

unpaired : (places : List ℕ) → placed places [] ≡ []
unpaired [] = refl
unpaired (place ∷ places) = refl

-- nothing is placed where the places or the texts are at their end
spent : (places : List ℕ) (texts : List (Bor Text)) (i : ℕ) → min (length places) (length texts) ≤ i
    → placed (drop i places) (map (λ text. text.now) (drop i texts)) ≡ []
spent [] texts i over = ap (λ (l : List ℕ). placed l (map (λ text. text.now) (drop i texts))) (drop_all i [] (omega arith))
spent (p ∷ ps) [] i over =
    ap (λ (l : List (Bor Text)). placed (drop i (p ∷ ps)) (map (λ text. text.now) l)) (drop_all i [] (omega arith)) ∙ unpaired (drop i (p ∷ ps))
spent (p ∷ ps) (t ∷ ts) zero over = absurd (omega arith)
spent (p ∷ ps) (t ∷ ts) (suc i) over = spent ps ts i (omega arith)

pub returns-clause-value : goal.returns-clause-value
returns-clause-value c =
    let passed : min (length c.args.places.now) (length c.args.texts.now) ≤ c.loop-i.i = search rules in
    sym (ap (placed (drop 1 c.args.places.now)) (drop-map (λ text. text.now) 1 c.args.texts.now) ∙ c.loop-i.invariant.whole
    ∙ ap (λ (l : List Placed). map seen_word c.loop-i.found.items ++ l) (spent c.args.places.now c.args.texts.now c.loop-i.i passed) ∙ append-nil _)
