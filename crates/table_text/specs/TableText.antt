-- The text of a table for a selection: a line for each selected integral, and then the masters.
-- The format is the project's own.
use Rattle.std.specs.Prelude.{ℕ, List, [], ◌++◌, length, map, codes, decimal, slice_index_or}
use Rattle.std.specs.List.{flat_map}
use Rattle.integral_index.specs.Integral.{Integral}
use Rattle.sparse_row.specs.Row.{Row}
use Rattle.reduction_core.specs.Table.{Table}
use Rattle.reduction_core.specs.NormalForm.{normal_form, masters}
use Rattle.table_text.specs.Pieces.{descending_terms, integral_text, line_text}

-- the zero sectors listed for a family by its place, and none past the last
abbrev pub zeros_of : List (List ℕ) → ℕ → List ℕ
zeros_of zeros family = slice_index_or zeros family []

-- the normal form of an integral under a table
abbrev pub form_of : (ℕ → List ℕ) → Table → Integral → Row
form_of zeros table x = normal_form table.modulus table.order (zeros x.family) table.rows x

-- the integrals that a row shows, from the greatest to the least
abbrev pub shown_integrals : Row → List Integral
shown_integrals row = map (λ term. term.0) (descending_terms row)

-- how many masters there are, and a line for each
abbrev pub masters_text : (ℕ → List ℕ) → List Integral → List ℕ
masters_text name integrals =
    codes "masters " ++ (decimal (length integrals) ++ (codes "\n" ++ flat_map (λ x. integral_text (name x.family) x ++ codes "\n") integrals))

-- `name` gives the name of each family, `zeros` the zero sectors listed for it
abbrev pub table_text : (ℕ → List ℕ) → (ℕ → List ℕ) → Table → List Integral → List ℕ
table_text name zeros table selection =
    flat_map (λ x. line_text name x (form_of zeros table x)) selection
    ++ masters_text name (masters table.modulus table.order zeros table.rows selection)
