-- No reading of the file of integral families says that the file is missing.
use Rattle.std.proofs.Common.{ℕ, ℤ, List, [], ◌∷◌, length, map, codes}
use Rattle.yaml_text.specs.declared.tree.Tree.{Tree}
use Rattle.yaml_text.specs.declared.tree.Value.TheOpen.{Value-F}
use Rattle.yaml_text.specs.declared.tree.Pair.{Pair}
use Rattle.yaml_text.specs.Lines.{Bytes}
use Rattle.input_schema.specs.declared.faults.File.TheVariants as file
use Rattle.input_schema.specs.Readings.{NeverSaysMissing}
use Rattle.input_schema.specs.Nodes.{Layer, layer_of, line_of}
use Rattle.input_schema.specs.Maps.{value_of}
use Rattle.input_schema.proofs.Present.{IsPresent, passed, refused, behind, either, is_present, then_present, given_present, each_present, list_present, items_present, pair_present, number_present, fields_present, needed_present, name_present, fresh_present, new_name_present, value_present}
use Rattle.kinematics_schema.specs.declared.content.Kinematics.{Kinematics}
use Rattle.kinematics_schema.specs.KinematicsFile.{may}
use Rattle.kinematics_schema.specs.Independent.{independents, ReadsIndependent}
use Rattle.kinematics_schema.proofs.Present.{independent_present}
use Rattle.family_schema.specs.declared.content.Family.{Family}
use Rattle.family_schema.specs.declared.scope.Scope.{Scope}
use Rattle.family_schema.specs.Scope.{scope_of, independent_count, width_of, unit, all_of}
use Rattle.family_schema.specs.FamilyFile.{root_keys, map_keys, bilinear_keys, loop_name, narrow, ReadsLoops, ReadsSectors, ReadsSquare, ReadsProduct, ReadsBilinear, propagator_in, so_many, ReadsPropagators, ReadsImages, ReadsSymmetries, ReadsHead, ReadsBody, ReadsFamily, ReadsList}
use Rattle.family_schema.specs.Laws.{FamiliesNeverSayMissing}

loop_name_present : (kinematics : Kinematics) (found : List Bytes) (node : Tree) → IsPresent (loop_name kinematics found node)
loop_name_present kinematics found node =
    behind _ _ (name_present file.Families node) (λ text.
    behind _ _ (fresh_present file.Families (line_of node) kinematics.externals text) (λ _.
    behind _ _ (fresh_present file.Families (line_of node) kinematics.invariants text) (λ _.
    behind _ _ (fresh_present file.Families (line_of node) found text) (λ _. passed))))

loops_present : (kinematics : Kinematics) (node : Tree) → NeverSaysMissing (ReadsLoops kinematics node)
loops_present kinematics node =
    then_present _ _ (is_present _ (items_present _ _ _ _)) (λ nodes.
    then_present _ _ (each_present _ (λ found item. is_present _ (loop_name_present kinematics found item)) _ nodes) (λ loops. is_present (narrow (line_of node) kinematics loops) (either _ _ _ passed (refused tt))))

sectors_present : (least most width : ℕ) (node : Tree) → NeverSaysMissing (ReadsSectors least most width node)
sectors_present least most width node = then_present _ _ (is_present _ (items_present _ _ _ _)) (λ nodes. each_present _ (λ found item. is_present _ (number_present _ _ _ _)) _ nodes)

square_present : (scope : Scope) (node : Tree) → NeverSaysMissing (ReadsSquare scope node)
square_present scope node =
    then_present _ _ (is_present _ (pair_present _ _)) (λ both. then_present _ _ (independent_present _ _ _ _) (λ momentum.
    then_present _ _ (value_present _ _ _) (λ mass. is_present _ passed)))

product_present : (scope : Scope) (node : Tree) → NeverSaysMissing (ReadsProduct scope node)
product_present scope node =
    then_present _ _ (is_present _ (pair_present _ _)) (λ both. then_present _ _ (is_present _ (pair_present _ _)) (λ momenta.
    then_present _ _ (independent_present _ _ _ _) (λ left. then_present _ _ (independent_present _ _ _ _) (λ right.
    then_present _ _ (value_present _ _ _) (λ mass. is_present _ passed)))))

bilinear_present : (scope : Scope) (node : Tree) → NeverSaysMissing (ReadsBilinear scope node)
bilinear_present scope node = then_present _ _ (is_present _ (fields_present file.Families bilinear_keys node)) (λ pairs. then_present _ _ (is_present _ (needed_present file.Families (line_of node) pairs (codes "bilinear"))) (product_present scope))

propagator_present : (scope : Scope) (node : Tree) (layer : Layer) → NeverSaysMissing (propagator_in scope node layer)
propagator_present scope node (Value-F.Map pairs) = bilinear_present scope node
propagator_present scope node Value-F.Empty = square_present scope node
propagator_present scope node (Value-F.Scalar text) = square_present scope node
propagator_present scope node (Value-F.List items) = square_present scope node

propagators_present : (scope : Scope) (width : ℕ) (node : Tree) → NeverSaysMissing (ReadsPropagators scope width node)
propagators_present scope width node =
    then_present _ _ (is_present _ (behind _ (so_many (line_of node) width) (list_present file.Families node) (λ nodes. either _ _ _ passed (refused tt))))
    (λ nodes. each_present _ (λ found item. propagator_present scope item (layer_of item)) _ nodes)

images_present : (scope : Scope) (pairs : List Pair) → NeverSaysMissing (ReadsImages scope pairs)
images_present scope pairs = each_present _ (λ found loop. given_present (value_of pairs loop) (unit (length (independents scope.conserved scope.names)) (length found)) (ReadsIndependent file.Families scope.names scope.conserved) (independent_present file.Families scope.names scope.conserved)) _ scope.loops

symmetries_present : (scope : Scope) (node : Tree) → NeverSaysMissing (ReadsSymmetries scope node)
symmetries_present scope node =
    then_present _ _ (is_present _ (items_present _ _ _ _)) (λ nodes. each_present _ (λ found item.
    then_present _ _ (is_present _ (fields_present file.Families (map (λ name. may name) scope.loops) item)) (λ pairs. then_present _ _ (images_present scope pairs) (λ images. is_present _ passed))) _ nodes)

head_present : (kinematics : Kinematics) (found : List Family) (pairs : List Pair) (line : ℕ) → NeverSaysMissing (ReadsHead kinematics found pairs line)
head_present kinematics found pairs line =
    then_present _ _ (is_present _ (needed_present file.Families line pairs (codes "name"))) (λ named.
    then_present _ _ (is_present _ (new_name_present file.Families named (map (λ family. family.name) found))) (λ name.
    then_present _ _ (is_present _ (needed_present file.Families line pairs (codes "loop_momenta"))) (λ looped. then_present _ _ (loops_present kinematics looped) (λ loops. is_present _ passed))))

body_present : (pairs : List Pair) (line : ℕ) (scope : Scope) (width : ℕ) (name : Bytes) → NeverSaysMissing (ReadsBody pairs line scope width name)
body_present pairs line scope width name =
    then_present _ _ (given_present (value_of pairs (codes "top_level_sectors")) (all_of width ∷ []) (ReadsSectors 1 256 width) (sectors_present 1 256 width)) (λ top.
    then_present _ _ (is_present _ (needed_present file.Families line pairs (codes "propagators"))) (λ listed.
    then_present _ _ (propagators_present scope width listed) (λ propagators. then_present _ _ (given_present (value_of pairs (codes "zero_sectors")) [] (ReadsSectors 0 1024 width) (sectors_present 0 1024 width)) (λ zero.
    then_present _ _ (given_present (value_of pairs (codes "symmetries")) [] (ReadsSymmetries scope) (symmetries_present scope)) (λ symmetries. is_present _ passed)))))

family_present : (kinematics : Kinematics) (found : List Family) (node : Tree) → NeverSaysMissing (ReadsFamily kinematics found node)
family_present kinematics found node =
    then_present _ _ (is_present _ (fields_present file.Families map_keys node)) (λ pairs.
    then_present _ _ (head_present kinematics found pairs (line_of node)) (λ head.
    body_present pairs (line_of node) (scope_of kinematics head.loops) (width_of (length head.loops) (independent_count kinematics)) head.name))

list_of_present : (kinematics : Kinematics) (node : Tree) → NeverSaysMissing (ReadsList kinematics node)
list_of_present kinematics node = then_present _ _ (is_present _ (items_present _ _ _ _)) (λ nodes. each_present _ (family_present kinematics) _ nodes)

pub families_present : FamiliesNeverSayMissing
families_present kinematics tree =
    then_present _ _ (is_present _ (fields_present file.Families root_keys tree)) (λ pairs.
    then_present _ _ (is_present _ (needed_present file.Families (line_of tree) pairs (codes "integralfamilies"))) (list_of_present kinematics))
