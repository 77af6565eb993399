-- Each selected integral is of one of the two families.
use Rattle.std.proofs.Common.{◌≡◌, ◌<◌, [], ◌∷◌, arith}
use Rattle.std.specs.Prelude.{All}
use Rattle.std.proofs.lemmas.List.Elements.{All-from_recursion}
use Rattle.integral_index.specs.Integral.{Integral}
use Rattle.board_tests.proofs.texts.the_text_and_the_masters_of_two_families.Goals as goal

of_two : (a b c d : Integral) → a.family ≡ 1 → b.family ≡ 0 → c.family ≡ 1 → d.family ≡ 1 → All (λ (x : Integral). x.family < 2) (a ∷ b ∷ c ∷ d ∷ [])
of_two a b c d ea eb ec ed = All-from_recursion (λ (x : Integral). x.family < 2) (a ∷ b ∷ c ∷ d ∷ []) (omega (arith, ea), (omega (arith, eb), (omega (arith, ec), (omega (arith, ed), tt))))

pub text-requires : goal.text-requires
text-requires g c = of_two _ _ _ _ c.in_ok-integral.ensures c.in_ok-integral-2.ensures c.in_ok-integral-3.ensures c.in_ok-integral-4.ensures

pub masters-requires : goal.masters-requires
masters-requires g c = of_two _ _ _ _ c.in_ok-integral.ensures c.in_ok-integral-2.ensures c.in_ok-integral-3.ensures c.in_ok-integral-4.ensures
