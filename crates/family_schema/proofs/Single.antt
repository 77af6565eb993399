-- The file of integral families has one reading at most.
use Rattle.std.proofs.Common.{ℕ, List}
use Rattle.yaml_text.specs.declared.tree.Tree.{Tree}
use Rattle.yaml_text.specs.declared.tree.Value.TheOpen.{Value-F}
use Rattle.yaml_text.specs.declared.tree.Pair.{Pair}
use Rattle.yaml_text.specs.Lines.{Bytes}
use Rattle.input_schema.specs.Readings.{IsSingle}
use Rattle.input_schema.specs.Nodes.{Layer, layer_of}
use Rattle.input_schema.specs.Laws.{MomentaAreSingle, ValuesAreSingle}
use Rattle.input_schema.proofs.Steps.{is_single, then_single, given_single, each_single}
use Rattle.kinematics_schema.specs.declared.content.Kinematics.{Kinematics}
use Rattle.kinematics_schema.proofs.Single.{independent_single}
use Rattle.family_schema.specs.declared.content.Family.{Family}
use Rattle.family_schema.specs.declared.scope.Scope.{Scope}
use Rattle.family_schema.specs.FamilyFile.{ReadsLoops, ReadsSectors, ReadsSquare, ReadsProduct, ReadsBilinear, propagator_in, ReadsPropagators, ReadsImages, ReadsSymmetries, ReadsHead, ReadsBody, ReadsFamily, ReadsList}
use Rattle.family_schema.specs.Laws.{FamiliesAreSingle}

loops_single : (kinematics : Kinematics) (node : Tree) → IsSingle (ReadsLoops kinematics node)
loops_single kinematics node =
    then_single _ _ (is_single _) (λ nodes. then_single _ _ (each_single _ (λ found item. is_single _) _ nodes) (λ loops. is_single _))

sectors_single : (least most width : ℕ) (node : Tree) → IsSingle (ReadsSectors least most width node)
sectors_single least most width node = then_single _ _ (is_single _) (λ nodes. each_single _ (λ found item. is_single _) _ nodes)

square_single : MomentaAreSingle → ValuesAreSingle → (scope : Scope) (node : Tree) → IsSingle (ReadsSquare scope node)
square_single m v scope node =
    then_single _ _ (is_single _) (λ both. then_single _ _ (independent_single m _ _ _ _) (λ momentum. then_single _ _ (v _ _ _) (λ mass. is_single _)))

product_single : MomentaAreSingle → ValuesAreSingle → (scope : Scope) (node : Tree) → IsSingle (ReadsProduct scope node)
product_single m v scope node =
    then_single _ _ (is_single _) (λ both. then_single _ _ (is_single _) (λ momenta.
    then_single _ _ (independent_single m _ _ _ _) (λ left. then_single _ _ (independent_single m _ _ _ _) (λ right.
    then_single _ _ (v _ _ _) (λ mass. is_single _)))))

bilinear_single : MomentaAreSingle → ValuesAreSingle → (scope : Scope) (node : Tree) → IsSingle (ReadsBilinear scope node)
bilinear_single m v scope node = then_single _ _ (is_single _) (λ pairs. then_single _ _ (is_single _) (product_single m v scope))

propagator_single : MomentaAreSingle → ValuesAreSingle → (scope : Scope) (node : Tree) (layer : Layer) → IsSingle (propagator_in scope node layer)
propagator_single m v scope node (Value-F.Map pairs) = bilinear_single m v scope node
propagator_single m v scope node Value-F.Empty = square_single m v scope node
propagator_single m v scope node (Value-F.Scalar text) = square_single m v scope node
propagator_single m v scope node (Value-F.List items) = square_single m v scope node

propagators_single : MomentaAreSingle → ValuesAreSingle → (scope : Scope) (width : ℕ) (node : Tree) → IsSingle (ReadsPropagators scope width node)
propagators_single m v scope width node =
    then_single _ _ (is_single _) (λ nodes. each_single _ (λ found item. propagator_single m v scope item (layer_of item)) _ nodes)

images_single : MomentaAreSingle → (scope : Scope) (pairs : List Pair) → IsSingle (ReadsImages scope pairs)
images_single m scope pairs = each_single _ (λ found loop. given_single _ _ _ (independent_single m _ _ _)) _ scope.loops

symmetries_single : MomentaAreSingle → (scope : Scope) (node : Tree) → IsSingle (ReadsSymmetries scope node)
symmetries_single m scope node =
    then_single _ _ (is_single _) (λ nodes. each_single _ (λ found item. then_single _ _ (is_single _) (λ pairs. then_single _ _ (images_single m scope pairs) (λ images. is_single _))) _ nodes)

head_single : (kinematics : Kinematics) (found : List Family) (pairs : List Pair) (line : ℕ) → IsSingle (ReadsHead kinematics found pairs line)
head_single kinematics found pairs line =
    then_single _ _ (is_single _) (λ named. then_single _ _ (is_single _) (λ name. then_single _ _ (is_single _) (λ looped.
    then_single _ _ (loops_single kinematics looped) (λ loops. is_single _))))

body_single : MomentaAreSingle → ValuesAreSingle → (pairs : List Pair) (line : ℕ) (scope : Scope) (width : ℕ) (name : Bytes) → IsSingle (ReadsBody pairs line scope width name)
body_single m v pairs line scope width name =
    then_single _ _ (given_single _ _ _ (sectors_single 1 256 width)) (λ top. then_single _ _ (is_single _) (λ listed.
    then_single _ _ (propagators_single m v scope width listed) (λ propagators. then_single _ _ (given_single _ _ _ (sectors_single 0 1024 width)) (λ zero.
    then_single _ _ (given_single _ _ _ (symmetries_single m scope)) (λ symmetries. is_single _)))))

family_single : MomentaAreSingle → ValuesAreSingle → (kinematics : Kinematics) (found : List Family) (node : Tree) → IsSingle (ReadsFamily kinematics found node)
family_single m v kinematics found node =
    then_single _ _ (is_single _) (λ pairs. then_single _ _ (head_single kinematics found pairs _) (λ head. body_single m v pairs _ _ _ head.name))

list_single : MomentaAreSingle → ValuesAreSingle → (kinematics : Kinematics) (node : Tree) → IsSingle (ReadsList kinematics node)
list_single m v kinematics node = then_single _ _ (is_single _) (λ nodes. each_single _ (family_single m v kinematics) _ nodes)

pub families_single : MomentaAreSingle → ValuesAreSingle → FamiliesAreSingle
families_single m v kinematics tree = then_single _ _ (is_single _) (λ pairs. then_single _ _ (is_single _) (list_single m v kinematics))
