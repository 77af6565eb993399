-- The laws of the forward elimination.
use Rattle.sector_forward.proofs.Eliminations.{one_pivots, rest_spanned, nothing_new}
use Rattle.sector_forward.proofs.laws.elimination_is_determined.Goals as goal

pub returns-clause-pivots : goal.returns-clause-pivots
returns-clause-pivots c =
    λ p order unit taken rows rest others others_rest row x e f. one_pivots p order unit taken rows rest others others_rest e f row x

pub returns-clause-rest : goal.returns-clause-rest
returns-clause-rest c =
    λ p order unit taken rows rest others others_rest e f. record {
      forth = rest_spanned p order unit taken rows rest others others_rest e f;
      back = rest_spanned p order unit taken others others_rest rows rest f e;
    }

pub returns-clause-nothing_new : goal.returns-clause-nothing_new
returns-clause-nothing_new c = nothing_new
