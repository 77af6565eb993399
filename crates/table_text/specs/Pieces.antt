-- The texts of integrals, terms, sums and lines, of which the text of a table is made.
-- The format is the project's own. Numbers are in decimal, and texts are lists of ASCII codes.
use Rattle.std.specs.Prelude.{ℕ, List, [], ◌∷◌, ◌++◌, codes, decimal, slice_index_or}
use Rattle.std.specs.Fmt.{signed_decimal}
use Rattle.std.specs.List.{join_by}
use Rattle.std.specs.FinMap as map
use Rattle.std.specs.Ordering.{flip_args}
use Rattle.integral_index.specs.Integral.{Integral}
use Rattle.integral_index.specs.Order.{compare}
use Rattle.sparse_row.specs.Row.{Row}

-- an integral of a family of this name: the name, and its indices in brackets, joined by commas
abbrev pub integral_text : List ℕ → Integral → List ℕ
integral_text name x = name ++ (codes "[" ++ (join_by signed_decimal (codes ",") x.indices ++ codes "]"))

-- the name of a family by its place, and no byte past the last
abbrev pub name_of : List (List ℕ) → ℕ → List ℕ
name_of names family = slice_index_or names family []

-- a coefficient times an integral. `name` gives the name of each family
abbrev pub term_text : (ℕ → List ℕ) → Integral × ℕ → List ℕ
term_text name term = decimal term.1 ++ (codes "*" ++ integral_text (name term.0.family) term.0)

-- the terms joined by plus signs, and 0 where there is none
abbrev pub sum_text : (ℕ → List ℕ) → List (Integral × ℕ) → List ℕ
sum_text name [] = codes "0"
sum_text name (term ∷ rest) = join_by (term_text name) (codes " + ") (term ∷ rest)

-- the terms of a row from the greatest integral to the least: the same map, ordered the other way round
abbrev pub descending_terms : Row → List (Integral × ℕ)
descending_terms row = map.entries (map.from_entries {R = flip_args (compare row.order)} (map.entries row.terms))

-- an integral, and what it equals
abbrev pub line_text : (ℕ → List ℕ) → Integral → Row → List ℕ
line_text name x form = integral_text (name x.family) x ++ (codes " = " ++ (sum_text name (descending_terms form) ++ codes "\n"))
