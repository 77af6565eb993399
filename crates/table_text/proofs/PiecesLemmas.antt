-- The texts of sums and lines over terms as a row keeps them.
use Rattle.std.proofs.Common.{◌≡◌, ℕ, List, ◌∷◌, ◌++◌, map, codes, sym, ap}
use Rattle.std.specs.List.{join_by}
use Rattle.std.proofs.lemmas.List.Folds.{flat_map-map}
use Rattle.sparse_row.specs.declared.Term.{Term}
use Rattle.sparse_row.specs.Terms.{entry_of}
use Rattle.table_text.specs.Pieces.{term_text, sum_text}

-- a sum of terms, from their entries
pub sum_text-map : (name : ℕ → List ℕ) (first : Term) (rest : List Term) → join_by (λ term. term_text name (entry_of term)) (codes " + ") (first ∷ rest) ≡ sum_text name (map entry_of (first ∷ rest))
sum_text-map name first rest =
    ap (λ tail. term_text name (entry_of first) ++ tail) (sym (flat_map-map (λ entry. codes " + " ++ term_text name entry) entry_of rest))
