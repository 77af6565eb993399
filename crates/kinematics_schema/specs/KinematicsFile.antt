-- How the file of kinematics is read. The project's own, after the file of this name of Kira
-- (arXiv:1705.05610).
use Rattle.std.specs.Prelude.{ℕ, true, false, if◌then◌else◌, nat_le, Option, Some, None, List, [], ◌∷◌, length, remove, Ok, codes}
use Rattle.yaml_text.specs.declared.tree.Tree.{Tree}
use Rattle.yaml_text.specs.declared.tree.Pair.{Pair}
use Rattle.yaml_text.specs.Lines.{Bytes}
use Rattle.input_schema.specs.declared.faults.File.TheVariants as file
use Rattle.input_schema.specs.declared.faults.InputKind.TheVariants.{OutOfRange}
use Rattle.input_schema.specs.Readings.{Outcome, refuse, ◌>>=◌, Reading, Is, Then, IfGiven, Each}
use Rattle.input_schema.specs.Nodes.{line_of, items, pair}
use Rattle.input_schema.specs.Maps.{Key, fields, needed, value_of}
use Rattle.input_schema.specs.Names.{name, fresh, new_name, reference}
use Rattle.input_schema.specs.Numbers.{number}
use Rattle.input_schema.specs.Texts.{ReadsMomentum, ReadsValue}
use Rattle.kinematics_schema.specs.declared.content.Conserved.{Conserved}
use Rattle.kinematics_schema.specs.declared.content.Rule.{Rule}
use Rattle.kinematics_schema.specs.declared.content.Kinematics.{Kinematics}
use Rattle.kinematics_schema.specs.declared.externals.Externals.{Externals}
use Rattle.kinematics_schema.specs.Independent.{independents, ReadsIndependent}

-- ---- the keys

abbrev pub must : List ℕ → Key
must text = record { name = text; is_needed = true }

abbrev pub may : List ℕ → Key
may text = record { name = text; is_needed = false }

abbrev pub root_keys : List Key
root_keys = must (codes "kinematics") ∷ []

abbrev pub map_keys : List Key
map_keys =
    must (codes "incoming_momenta") ∷ may (codes "outgoing_momenta") ∷ may (codes "momentum_conservation") ∷ may (codes "kinematic_invariants")
    ∷ may (codes "scalarproduct_rules") ∷ may (codes "symbol_to_replace_by_one") ∷ []

-- ---- the values

-- 0 to 7 names, behind those that are declared
abbrev pub ReadsNames : List Bytes → Tree → Reading (List Bytes)
ReadsNames declared node = Then (Is (items file.Kinematics node 0 7)) (Each (λ found item. Is (new_name file.Kinematics item found)) declared)

-- a declared momentum, and a momentum over the others
abbrev pub ReadsConserved : List Bytes → Tree → Reading (Option Conserved)
ReadsConserved externals node =
    Then (Is (pair file.Kinematics node)) (λ both.
    Then (Is (reference file.Kinematics both.0 externals)) (λ place.
    Then (ReadsMomentum file.Kinematics both.1 (remove externals place)) (λ image.
    Is (Ok (Some (record { place = place; image = image }))))))

-- a new name, and a number from 0 to 255, which means nothing
abbrev pub invariant : List Bytes → List Bytes → Tree → Outcome Bytes
invariant externals found node =
    pair file.Kinematics node >>= (λ both.
    name file.Kinematics both.0 >>= (λ text.
    fresh file.Kinematics (line_of both.0) externals text >>= (λ _.
    fresh file.Kinematics (line_of both.0) found text >>= (λ _.
    number file.Kinematics both.1 0 255 >>= (λ _. Ok text)))))

-- 0 to 32 of these
abbrev pub ReadsInvariants : List Bytes → Tree → Reading (List Bytes)
ReadsInvariants externals node = Then (Is (items file.Kinematics node 0 32)) (Each (λ found item. Is (invariant externals found item)) [])

-- two momenta over the external momenta, and a value over the invariants
abbrev pub ReadsRule : List Bytes → Option Conserved → List Bytes → Tree → Reading Rule
ReadsRule externals conserved invariants node =
    Then (Is (pair file.Kinematics node)) (λ both.
    Then (Is (pair file.Kinematics both.0)) (λ momenta.
    Then (ReadsIndependent file.Kinematics externals conserved momenta.0) (λ left.
    Then (ReadsIndependent file.Kinematics externals conserved momenta.1) (λ right.
    Then (ReadsValue file.Kinematics both.1 invariants) (λ value.
    Is (Ok (record { line = line_of both.1; left = left; right = right; value = value })))))))

-- 0 to 64 of these
abbrev pub ReadsRules : List Bytes → Option Conserved → List Bytes → Tree → Reading (List Rule)
ReadsRules externals conserved invariants node =
    Then (Is (items file.Kinematics node 0 64)) (Each (λ found item. ReadsRule externals conserved invariants item) [])

-- the place of an invariant
abbrev pub ReadsSymbol : List Bytes → Tree → Reading (Option ℕ)
ReadsSymbol invariants node = Then (Is (reference file.Kinematics node invariants)) (λ place. Is (Ok (Some place)))

-- ---- the map

-- all external momenta, and the conserved one
abbrev pub ReadsExternals : List Pair → Tree → Reading Externals
ReadsExternals pairs incoming =
    Then (ReadsNames [] incoming) (λ first.
    Then (IfGiven (value_of pairs (codes "outgoing_momenta")) first (ReadsNames first)) (λ names.
    Then (IfGiven (value_of pairs (codes "momentum_conservation")) None (ReadsConserved names)) (λ conserved.
    Is (Ok (record { names = names; conserved = conserved })))))

abbrev pub ReadsProducts : List Pair → Externals → Reading Kinematics
ReadsProducts pairs externals =
    Then (IfGiven (value_of pairs (codes "kinematic_invariants")) [] (ReadsInvariants externals.names)) (λ invariants.
    Then (IfGiven (value_of pairs (codes "scalarproduct_rules")) [] (ReadsRules externals.names externals.conserved invariants)) (λ rules.
    Then (IfGiven (value_of pairs (codes "symbol_to_replace_by_one")) None (ReadsSymbol invariants)) (λ symbol.
    Is (Ok (record { externals = externals.names; conserved = externals.conserved; invariants = invariants; rules = rules; symbol = symbol })))))

-- at most 6 independent external momenta
abbrev pub few_enough : ℕ → Kinematics → Outcome Kinematics
few_enough line kinematics =
    if nat_le (length (independents kinematics.conserved kinematics.externals)) 6 then Ok kinematics else refuse file.Kinematics line OutOfRange

abbrev pub ReadsMap : Tree → Reading Kinematics
ReadsMap node =
    Then (Is (fields file.Kinematics map_keys node)) (λ pairs.
    Then (Is (needed file.Kinematics (line_of node) pairs (codes "incoming_momenta"))) (λ incoming.
    Then (ReadsExternals pairs incoming) (λ externals.
    Then (ReadsProducts pairs externals) (λ kinematics.
    Is (few_enough (line_of incoming) kinematics)))))

abbrev pub ReadsKinematics : Tree → Reading Kinematics
ReadsKinematics node =
    Then (Is (fields file.Kinematics root_keys node)) (λ pairs.
    Then (Is (needed file.Kinematics (line_of node) pairs (codes "kinematics"))) ReadsMap)
