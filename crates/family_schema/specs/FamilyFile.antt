-- How the file of integral families is read. The project's own, after the file of this name of Kira
-- (arXiv:1705.05610).
use Rattle.std.specs.Prelude.{ℕ, ℤ, ◌==◌, if◌then◌else◌, nat_le, List, [], ◌∷◌, map, length, Ok, codes}
use Rattle.yaml_text.specs.declared.tree.Tree.{Tree}
use Rattle.yaml_text.specs.declared.tree.Pair.{Pair}
use Rattle.yaml_text.specs.declared.tree.Value.TheOpen.{Value-F}
use Rattle.yaml_text.specs.Lines.{Bytes}
use Rattle.input_schema.specs.declared.faults.File.TheVariants as file
use Rattle.input_schema.specs.declared.faults.InputKind.TheVariants.{OutOfRange, WrongCount}
use Rattle.input_schema.specs.Readings.{Outcome, refuse, ◌>>=◌, Reading, Is, Then, IfGiven, Each}
use Rattle.input_schema.specs.Nodes.{Layer, layer_of, line_of, list, items, pair}
use Rattle.input_schema.specs.Maps.{Key, fields, needed, value_of}
use Rattle.input_schema.specs.Names.{name, fresh, new_name}
use Rattle.input_schema.specs.Numbers.{number}
use Rattle.input_schema.specs.Texts.{ReadsValue}
use Rattle.kinematics_schema.specs.declared.content.Kinematics.{Kinematics}
use Rattle.kinematics_schema.specs.Independent.{independents, ReadsIndependent}
use Rattle.kinematics_schema.specs.KinematicsFile.{must, may}
use Rattle.family_schema.specs.declared.content.Momenta.TheVariants.{Square, Product}
use Rattle.family_schema.specs.declared.content.Propagator.{Propagator}
use Rattle.family_schema.specs.declared.content.Symmetry.{Symmetry}
use Rattle.family_schema.specs.declared.content.Family.{Family}
use Rattle.family_schema.specs.declared.scope.Scope.{Scope}
use Rattle.family_schema.specs.declared.loops.Head.{Head}
use Rattle.family_schema.specs.Scope.{scope_of, independent_count, width_of, all_of, unit}

-- ---- the keys

abbrev pub root_keys : List Key
root_keys = must (codes "integralfamilies") ∷ []

abbrev pub map_keys : List Key
map_keys =
    must (codes "name") ∷ must (codes "loop_momenta") ∷ may (codes "top_level_sectors") ∷ must (codes "propagators")
    ∷ may (codes "zero_sectors") ∷ may (codes "symmetries") ∷ []

abbrev pub bilinear_keys : List Key
bilinear_keys = must (codes "bilinear") ∷ []

-- ---- loop momenta

-- a name that is neither an external momentum nor an invariant nor an earlier loop momentum
abbrev pub loop_name : Kinematics → List Bytes → Tree → Outcome Bytes
loop_name kinematics found node =
    name file.Families node >>= (λ text.
    fresh file.Families (line_of node) kinematics.externals text >>= (λ _.
    fresh file.Families (line_of node) kinematics.invariants text >>= (λ _.
    fresh file.Families (line_of node) found text >>= (λ _. Ok text))))

-- at most 20 denominators
abbrev pub narrow : ℕ → Kinematics → List Bytes → Outcome (List Bytes)
narrow line kinematics loops =
    if nat_le (width_of (length loops) (independent_count kinematics)) 20 then Ok loops else refuse file.Families line OutOfRange

-- 1 to 6 of these
abbrev pub ReadsLoops : Kinematics → Tree → Reading (List Bytes)
ReadsLoops kinematics node =
    Then (Is (items file.Families node 1 6)) (λ nodes.
    Then (Each (λ found item. Is (loop_name kinematics found item)) [] nodes) (λ loops. Is (narrow (line_of node) kinematics loops)))

-- ---- sectors

-- so many numbers, each of which is a sector of a family of this width
abbrev pub ReadsSectors : ℕ → ℕ → ℕ → Tree → Reading (List ℕ)
ReadsSectors least most width node =
    Then (Is (items file.Families node least most)) (Each (λ found item. Is (number file.Families item 0 (all_of width))) [])

-- ---- propagators

abbrev pub ReadsSquare : Scope → Tree → Reading Propagator
ReadsSquare scope node =
    Then (Is (pair file.Families node)) (λ both.
    Then (ReadsIndependent file.Families scope.names scope.conserved both.0) (λ momentum.
    Then (ReadsValue file.Families both.1 scope.invariants) (λ mass.
    Is (Ok (record { line = line_of both.1; momenta = Square momentum; mass = mass })))))

abbrev pub ReadsProduct : Scope → Tree → Reading Propagator
ReadsProduct scope node =
    Then (Is (pair file.Families node)) (λ both.
    Then (Is (pair file.Families both.0)) (λ momenta.
    Then (ReadsIndependent file.Families scope.names scope.conserved momenta.0) (λ left.
    Then (ReadsIndependent file.Families scope.names scope.conserved momenta.1) (λ right.
    Then (ReadsValue file.Families both.1 scope.invariants) (λ mass.
    Is (Ok (record { line = line_of both.1; momenta = Product left right; mass = mass })))))))

abbrev pub ReadsBilinear : Scope → Tree → Reading Propagator
ReadsBilinear scope node =
    Then (Is (fields file.Families bilinear_keys node)) (λ pairs.
    Then (Is (needed file.Families (line_of node) pairs (codes "bilinear"))) (ReadsProduct scope))

abbrev pub propagator_in : Scope → Tree → Layer → Reading Propagator
propagator_in scope node (Value-F.Map pairs) = ReadsBilinear scope node
propagator_in scope node _ = ReadsSquare scope node

-- `[momentum, value]`, or a map `{bilinear: [[momentum, momentum], value]}`
abbrev pub ReadsPropagator : Scope → Tree → Reading Propagator
ReadsPropagator scope node = propagator_in scope node (layer_of node)

abbrev pub so_many : ℕ → ℕ → List Tree → Outcome (List Tree)
so_many line width nodes = if length nodes == width then Ok nodes else refuse file.Families line WrongCount

-- as many as the family is wide
abbrev pub ReadsPropagators : Scope → ℕ → Tree → Reading (List Propagator)
ReadsPropagators scope width node =
    Then (Is (list file.Families node >>= so_many (line_of node) width)) (Each (λ found item. ReadsPropagator scope item) [])

-- ---- symmetries

-- the image of the loop momentum at this place; one that the map lacks stays
abbrev pub ReadsImage : Scope → List Pair → ℕ → Bytes → Reading (List ℤ)
ReadsImage scope pairs place loop =
    IfGiven (value_of pairs loop) (unit (length (independents scope.conserved scope.names)) place) (ReadsIndependent file.Families scope.names scope.conserved)

abbrev pub ReadsImages : Scope → List Pair → Reading (List (List ℤ))
ReadsImages scope pairs = Each (λ found loop. ReadsImage scope pairs (length found) loop) [] scope.loops

-- a map from loop momenta to momenta
abbrev pub ReadsSymmetry : Scope → Tree → Reading Symmetry
ReadsSymmetry scope node =
    Then (Is (fields file.Families (map (λ name. may name) scope.loops) node)) (λ pairs.
    Then (ReadsImages scope pairs) (λ images. Is (Ok (record { line = line_of node; images = images }))))

-- 0 to 64 of these
abbrev pub ReadsSymmetries : Scope → Tree → Reading (List Symmetry)
ReadsSymmetries scope node = Then (Is (items file.Families node 0 64)) (Each (λ found item. ReadsSymmetry scope item) [])

-- ---- a family

-- the name and the loop momenta of a family
abbrev pub ReadsHead : Kinematics → List Family → List Pair → ℕ → Reading Head
ReadsHead kinematics found pairs line =
    Then (Is (needed file.Families line pairs (codes "name"))) (λ named.
    Then (Is (new_name file.Families named (map (λ family. family.name) found))) (λ name.
    Then (Is (needed file.Families line pairs (codes "loop_momenta"))) (λ looped.
    Then (ReadsLoops kinematics looped) (λ loops. Is (Ok (record { name = name; loops = loops }))))))

abbrev pub ReadsBody : List Pair → ℕ → Scope → ℕ → Bytes → Reading Family
ReadsBody pairs line scope width name =
    Then (IfGiven (value_of pairs (codes "top_level_sectors")) (all_of width ∷ []) (ReadsSectors 1 256 width)) (λ top.
    Then (Is (needed file.Families line pairs (codes "propagators"))) (λ listed.
    Then (ReadsPropagators scope width listed) (λ propagators.
    Then (IfGiven (value_of pairs (codes "zero_sectors")) [] (ReadsSectors 0 1024 width)) (λ zero.
    Then (IfGiven (value_of pairs (codes "symmetries")) [] (ReadsSymmetries scope)) (λ symmetries.
    Is (Ok (record { name = name; loops = scope.loops; width = width; top_sectors = top; propagators = propagators; zero_sectors = zero; symmetries = symmetries })))))))

-- what follows the name and the loop momenta
abbrev pub ReadsRest : Kinematics → List Pair → ℕ → Head → Reading Family
ReadsRest kinematics pairs line head =
    ReadsBody pairs line (scope_of kinematics head.loops) (width_of (length head.loops) (independent_count kinematics)) head.name

abbrev pub ReadsFamily : Kinematics → List Family → Tree → Reading Family
ReadsFamily kinematics found node =
    Then (Is (fields file.Families map_keys node)) (λ pairs.
    Then (ReadsHead kinematics found pairs (line_of node)) (ReadsRest kinematics pairs (line_of node)))

-- 1 to 16 families
abbrev pub ReadsList : Kinematics → Tree → Reading (List Family)
ReadsList kinematics node = Then (Is (items file.Families node 1 16)) (Each (ReadsFamily kinematics) [])

abbrev pub ReadsFamilies : Kinematics → Tree → Reading (List Family)
ReadsFamilies kinematics node =
    Then (Is (fields file.Families root_keys node)) (λ pairs.
    Then (Is (needed file.Families (line_of node) pairs (codes "integralfamilies"))) (ReadsList kinematics))
