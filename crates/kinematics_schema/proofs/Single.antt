-- The file of kinematics has one reading at most.
use Rattle.std.proofs.Common.{Option, List}
use Rattle.yaml_text.specs.declared.tree.Tree.{Tree}
use Rattle.yaml_text.specs.declared.tree.Pair.{Pair}
use Rattle.yaml_text.specs.Lines.{Bytes}
use Rattle.input_schema.specs.declared.faults.File.{File}
use Rattle.input_schema.specs.Readings.{IsSingle}
use Rattle.input_schema.specs.Laws.{MomentaAreSingle, ValuesAreSingle}
use Rattle.input_schema.proofs.Steps.{is_single, then_single, given_single, each_single}
use Rattle.kinematics_schema.specs.declared.content.Conserved.{Conserved}
use Rattle.kinematics_schema.specs.declared.externals.Externals.{Externals}
use Rattle.kinematics_schema.specs.Independent.{ReadsIndependent}
use Rattle.kinematics_schema.specs.KinematicsFile.{ReadsNames, ReadsConserved, ReadsInvariants, ReadsRule, ReadsRules, ReadsSymbol, ReadsExternals, ReadsProducts, ReadsMap}
use Rattle.kinematics_schema.specs.Laws.{KinematicsAreSingle}

names_single : (declared : List Bytes) (node : Tree) → IsSingle (ReadsNames declared node)
names_single declared node = then_single _ _ (is_single _) (λ nodes. each_single _ (λ found item. is_single _) declared nodes)

conserved_single : MomentaAreSingle → (externals : List Bytes) (node : Tree) → IsSingle (ReadsConserved externals node)
conserved_single m externals node =
    then_single _ _ (is_single _) (λ both. then_single _ _ (is_single _) (λ place. then_single _ _ (m _ _ _) (λ image. is_single _)))

invariants_single : (externals : List Bytes) (node : Tree) → IsSingle (ReadsInvariants externals node)
invariants_single externals node = then_single _ _ (is_single _) (λ nodes. each_single _ (λ found item. is_single _) _ nodes)

pub independent_single : MomentaAreSingle → (file : File) (names : List Bytes) (conserved : Option Conserved) (node : Tree) → IsSingle (ReadsIndependent file names conserved node)
independent_single m file names conserved node = then_single _ _ (m _ _ _) (λ momentum. is_single _)

rule_single : MomentaAreSingle → ValuesAreSingle → (externals : List Bytes) (conserved : Option Conserved) (invariants : List Bytes) (node : Tree) → IsSingle (ReadsRule externals conserved invariants node)
rule_single m v externals conserved invariants node =
    then_single _ _ (is_single _) (λ both. then_single _ _ (is_single _) (λ momenta.
    then_single _ _ (independent_single m _ _ _ _) (λ left. then_single _ _ (independent_single m _ _ _ _) (λ right.
    then_single _ _ (v _ _ _) (λ value. is_single _)))))

rules_single : MomentaAreSingle → ValuesAreSingle → (externals : List Bytes) (conserved : Option Conserved) (invariants : List Bytes) (node : Tree) → IsSingle (ReadsRules externals conserved invariants node)
rules_single m v externals conserved invariants node =
    then_single _ _ (is_single _) (λ nodes. each_single _ (λ found item. rule_single m v externals conserved invariants item) _ nodes)

symbol_single : (invariants : List Bytes) (node : Tree) → IsSingle (ReadsSymbol invariants node)
symbol_single invariants node = then_single _ _ (is_single _) (λ place. is_single _)

externals_single : MomentaAreSingle → (pairs : List Pair) (incoming : Tree) → IsSingle (ReadsExternals pairs incoming)
externals_single m pairs incoming =
    then_single _ _ (names_single _ _) (λ first. then_single _ _ (given_single _ _ _ (names_single first)) (λ names.
    then_single _ _ (given_single _ _ _ (conserved_single m names)) (λ conserved. is_single _)))

products_single : MomentaAreSingle → ValuesAreSingle → (pairs : List Pair) (externals : Externals) → IsSingle (ReadsProducts pairs externals)
products_single m v pairs externals =
    then_single _ _ (given_single _ _ _ (invariants_single _)) (λ invariants.
    then_single _ _ (given_single _ _ _ (rules_single m v externals.names externals.conserved invariants)) (λ rules.
    then_single _ _ (given_single _ _ _ (symbol_single invariants)) (λ symbol. is_single _)))

map_single : MomentaAreSingle → ValuesAreSingle → (node : Tree) → IsSingle (ReadsMap node)
map_single m v node =
    then_single _ _ (is_single _) (λ pairs. then_single _ _ (is_single _) (λ incoming.
    then_single _ _ (externals_single m pairs incoming) (λ externals. then_single _ _ (products_single m v pairs externals) (λ kinematics. is_single _))))

pub kinematics_single : MomentaAreSingle → ValuesAreSingle → KinematicsAreSingle
kinematics_single m v tree = then_single _ _ (is_single _) (λ pairs. then_single _ _ (is_single _) (map_single m v))
