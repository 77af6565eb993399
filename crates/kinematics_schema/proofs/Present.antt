-- No reading of the file of kinematics says that the file is missing.
use Rattle.std.proofs.Common.{ℕ, ℤ, List, [], length, nat_le, Option, Some, None, codes}
use Rattle.yaml_text.specs.declared.tree.Tree.{Tree}
use Rattle.yaml_text.specs.declared.tree.Pair.{Pair}
use Rattle.yaml_text.specs.Lines.{Bytes}
use Rattle.input_schema.specs.declared.faults.File.{File}
use Rattle.input_schema.specs.declared.faults.File.TheVariants as file
use Rattle.input_schema.specs.Readings.{NeverSaysMissing}
use Rattle.input_schema.specs.Nodes.{line_of}
use Rattle.input_schema.specs.Maps.{value_of}
use Rattle.input_schema.proofs.Present.{IsPresent, passed, refused, behind, either, is_present, then_present, given_present, each_present, items_present, pair_present, number_present, fields_present, needed_present, name_present, fresh_present, new_name_present, reference_present, replaced_present, momentum_present, value_present}
use Rattle.kinematics_schema.specs.declared.content.Conserved.{Conserved}
use Rattle.kinematics_schema.specs.declared.externals.Externals.{Externals}
use Rattle.kinematics_schema.specs.Independent.{independent, ReadsIndependent}
use Rattle.kinematics_schema.specs.KinematicsFile.{root_keys, map_keys, ReadsNames, ReadsConserved, invariant, ReadsInvariants, ReadsRule, ReadsRules, ReadsSymbol, ReadsExternals, ReadsProducts, few_enough, ReadsMap}
use Rattle.kinematics_schema.specs.Laws.{KinematicsNeverSayMissing}

names_present : (declared : List Bytes) (node : Tree) → NeverSaysMissing (ReadsNames declared node)
names_present declared node = then_present _ _ (is_present _ (items_present _ _ _ _)) (λ nodes. each_present _ (λ found item. is_present _ (new_name_present _ _ _)) declared nodes)

conserved_present : (externals : List Bytes) (node : Tree) → NeverSaysMissing (ReadsConserved externals node)
conserved_present externals node =
    then_present _ _ (is_present _ (pair_present _ _)) (λ both. then_present _ _ (is_present _ (reference_present _ _ _)) (λ place.
    then_present _ _ (momentum_present _ _ _) (λ image. is_present _ passed)))

invariant_present : (externals found : List Bytes) (node : Tree) → IsPresent (invariant externals found node)
invariant_present externals found node =
    behind _ _ (pair_present file.Kinematics node) (λ both.
    behind _ _ (name_present file.Kinematics both.0) (λ text.
    behind _ _ (fresh_present file.Kinematics (line_of both.0) externals text) (λ _.
    behind _ _ (fresh_present file.Kinematics (line_of both.0) found text) (λ _.
    behind _ _ (number_present file.Kinematics both.1 0 255) (λ _. passed)))))

invariants_present : (externals : List Bytes) (node : Tree) → NeverSaysMissing (ReadsInvariants externals node)
invariants_present externals node =
    then_present _ _ (is_present _ (items_present _ _ _ _)) (λ nodes. each_present _ (λ found item. is_present _ (invariant_present externals found item)) _ nodes)

over_others : (file : File) (line : ℕ) (conserved : Option Conserved) (momentum : List ℤ) → IsPresent (independent file line conserved momentum)
over_others file line None momentum = passed
over_others file line (Some c) momentum = replaced_present file line c.place c.image momentum

pub independent_present : (file : File) (names : List Bytes) (conserved : Option Conserved) (node : Tree) → NeverSaysMissing (ReadsIndependent file names conserved node)
independent_present file names conserved node = then_present _ _ (momentum_present _ _ _) (λ momentum. is_present _ (over_others file (line_of node) conserved momentum))

rule_present : (externals : List Bytes) (conserved : Option Conserved) (invariants : List Bytes) (node : Tree) → NeverSaysMissing (ReadsRule externals conserved invariants node)
rule_present externals conserved invariants node =
    then_present _ _ (is_present _ (pair_present _ _)) (λ both. then_present _ _ (is_present _ (pair_present _ _)) (λ momenta.
    then_present _ _ (independent_present _ _ _ _) (λ left. then_present _ _ (independent_present _ _ _ _) (λ right.
    then_present _ _ (value_present _ _ _) (λ value. is_present _ passed)))))

rules_present : (externals : List Bytes) (conserved : Option Conserved) (invariants : List Bytes) (node : Tree) → NeverSaysMissing (ReadsRules externals conserved invariants node)
rules_present externals conserved invariants node =
    then_present _ _ (is_present _ (items_present _ _ _ _)) (λ nodes. each_present _ (λ found item. rule_present externals conserved invariants item) _ nodes)

symbol_present : (invariants : List Bytes) (node : Tree) → NeverSaysMissing (ReadsSymbol invariants node)
symbol_present invariants node = then_present _ _ (is_present _ (reference_present _ _ _)) (λ place. is_present _ passed)

externals_present : (pairs : List Pair) (incoming : Tree) → NeverSaysMissing (ReadsExternals pairs incoming)
externals_present pairs incoming =
    then_present _ _ (names_present _ _) (λ first. then_present _ _ (given_present (value_of pairs (codes "outgoing_momenta")) first (ReadsNames first) (names_present first)) (λ names.
    then_present _ _ (given_present (value_of pairs (codes "momentum_conservation")) None (ReadsConserved names) (conserved_present names)) (λ conserved. is_present _ passed)))

products_present : (pairs : List Pair) (externals : Externals) → NeverSaysMissing (ReadsProducts pairs externals)
products_present pairs externals =
    then_present _ _ (given_present (value_of pairs (codes "kinematic_invariants")) [] (ReadsInvariants externals.names) (invariants_present externals.names)) (λ invariants.
    then_present _ _ (given_present (value_of pairs (codes "scalarproduct_rules")) [] (ReadsRules externals.names externals.conserved invariants) (rules_present externals.names externals.conserved invariants)) (λ rules.
    then_present _ _ (given_present (value_of pairs (codes "symbol_to_replace_by_one")) None (ReadsSymbol invariants) (symbol_present invariants)) (λ symbol. is_present _ passed)))

map_present : (node : Tree) → NeverSaysMissing (ReadsMap node)
map_present node =
    then_present _ _ (is_present _ (fields_present file.Kinematics map_keys node)) (λ pairs.
    then_present _ _ (is_present _ (needed_present file.Kinematics (line_of node) pairs (codes "incoming_momenta"))) (λ incoming.
    then_present _ _ (externals_present pairs incoming) (λ externals.
    then_present _ _ (products_present pairs externals) (λ kinematics. is_present (few_enough (line_of incoming) kinematics) (either _ _ _ passed (refused tt))))))

pub kinematics_present : KinematicsNeverSayMissing
kinematics_present tree =
    then_present _ _ (is_present _ (fields_present file.Kinematics root_keys tree)) (λ pairs.
    then_present _ _ (is_present _ (needed_present file.Kinematics (line_of tree) pairs (codes "kinematics"))) map_present)
