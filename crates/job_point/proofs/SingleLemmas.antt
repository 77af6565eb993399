-- A job says one thing at most at its numeric point.
use Rattle.std.proofs.Common.{◌≡◌, ℕ, ◌<◌, List, [], ◌∷◌, length, Ok, sym, ap, subst, ◌∙◌}
use Rattle.kinematics.specs.declared.rules.Rule.{Rule}
use Rattle.rational_expressions.specs.Laws.{HasOneOutcome}
use Rattle.kinematics.specs.Points.{Point}
use Rattle.rational_expressions.specs.Trees.{Tree}
use Rattle.rational_expressions.specs.Evaluation.{Outcome}
use Rattle.input_schema.specs.declared.faults.File.{File}
use Rattle.kinematics_schema.specs.declared.content.Kinematics.{Kinematics}
use Rattle.family_schema.specs.declared.content.Symmetry.{Symmetry as Map}
use Rattle.family_schema.specs.declared.content.Family.{Family}
use Rattle.job_schema.specs.declared.points.Setting.{Setting}
use Rattle.propagators.specs.declared.denominators.Denominator.{Denominator}
use Rattle.propagators.specs.Basis.{Basis, forms_of}
use Rattle.propagators.specs.Combinations.{AreIndependent}
use Rattle.symmetry_maps.specs.Laws.{OneSymmetry}
use Rattle.job_point.specs.Steps.{IsSingle}
use Rattle.job_point.specs.Values.{answer_of, IsValueAt, AreSettingsAt, AreValuesAt}
use Rattle.job_point.specs.Point.{AreRulesAt, IsPointFor, IsPointAt, AreDenominatorsAt, IsBasisFor, images_of, AreSymmetriesAt, IsFamilyAt, AreFamiliesAt}
use Rattle.job_point.specs.Laws.{PointsAreSingle}
use Rattle.job_point.proofs.StepLemmas.{is_single, then_single, then_single_where, each_single}

-- an answer with a value is that of the outcome
value_of : (file : File) (line : ℕ) (o q : Outcome) (a b : ℕ) → o ≡ q → answer_of file line o ≡ Ok a → answer_of file line q ≡ Ok b → a ≡ b
value_of file line o q a b e h k = let same : answer_of file line o ≡ answer_of file line q = cc in cc

value_single : HasOneOutcome → (p : ℕ) → 1 < p → (residues : List ℕ) (file : File) (line : ℕ) (tree : Tree) → IsSingle (IsValueAt p residues file line tree)
value_single law p big residues file line tree one other h k =
    value_of file line h.outcome k.outcome one other (law p residues tree h.outcome k.outcome big h.is k.is) h.told k.told

settings_single : HasOneOutcome → (p : ℕ) → 1 < p → (settings : List Setting) → IsSingle (AreSettingsAt p settings)
settings_single law p big settings = each_single _ (λ found setting. value_single law p big _ _ _ _) [] settings

values_single : HasOneOutcome → (p : ℕ) → 1 < p → (symbol : _) (settings : List Setting) → IsSingle (AreValuesAt p symbol settings)
values_single law p big symbol [] one other h k = absurd h
values_single law p big symbol (dimension ∷ others) one other h k =
    then_single _ _ (settings_single law p big others) (λ values. then_single _ _ (value_single law p big _ _ _ _) (λ d. is_single _)) one other h k

pub point_for_single : (p externals : ℕ) (rules : List Rule) → IsSingle (IsPointFor p externals rules)
point_for_single p externals rules one other h k =
    let made : ℕ → ℕ → List ℕ → Point = λ m n products. record { modulus = m; externals = n; products = products } in
    ap (λ m. made m one.externals one.products) (h.modulus ∙ sym k.modulus)
    ∙ ap (λ n. made other.modulus n one.products) (h.externals_are ∙ sym k.externals_are)
    ∙ ap (made other.modulus other.externals) (k.products.only one.products h.products.meets)

point_single : HasOneOutcome → (p : ℕ) → 1 < p → (residues : List ℕ) (kinematics : Kinematics) → IsSingle (IsPointAt p residues kinematics)
point_single law p big residues kinematics =
    then_single (AreRulesAt p residues kinematics.rules) _
    (each_single _ (λ found rule. then_single _ _ (value_single law p big _ _ _ _) (λ value. is_single _)) [] kinematics.rules)
    (λ rules. point_for_single p _ rules)

basis_for_single : (p : ℕ) (point : Point) (number loops : ℕ) (denominators : List Denominator) → IsSingle (IsBasisFor p point number loops denominators)
basis_for_single p point number loops denominators one other h k = h.0 ∙ sym k.0

-- the denominators of a basis that was found are independent
pub independent : (p : ℕ) (point : Point) (number loops : ℕ) (denominators : List Denominator) (basis : Basis) → IsBasisFor p point number loops denominators (Ok basis) → AreIndependent p (forms_of basis)
independent p point number loops denominators basis h = subst (λ (b : Basis). AreIndependent p (forms_of b)) (sym h.0) h.1

symmetries_single : OneSymmetry → (p : ℕ) → 1 < p → (basis : Basis) (symmetries : List Map) → AreIndependent p (forms_of basis) → IsSingle (AreSymmetriesAt basis symmetries)
symmetries_single law p big basis symmetries apart =
    each_single _ (λ found symmetry one other h k. law p (images_of basis symmetry) (forms_of basis) one other big apart h k) [] symmetries

family_single : HasOneOutcome → OneSymmetry → (p : ℕ) → 1 < p → (residues : List ℕ) (point : Point) (number : ℕ) (family : Family) → IsSingle (IsFamilyAt p residues point number family)
family_single law one p big residues point number family =
    then_single (AreDenominatorsAt p residues family.propagators) _
    (each_single _ (λ found propagator. then_single _ _ (value_single law p big _ _ _ _) (λ mass. is_single _)) [] family.propagators)
    (λ denominators. then_single_where (IsBasisFor p point number (length family.loops) denominators) _ (basis_for_single p point number _ denominators) (λ basis is.
    then_single (AreSymmetriesAt basis family.symmetries) _
    (symmetries_single one p big basis family.symmetries (independent p point number _ denominators basis is)) (λ symmetries. is_single _)))

families_single : HasOneOutcome → OneSymmetry → (p : ℕ) → 1 < p → (residues : List ℕ) (point : Point) (families : List Family) → IsSingle (AreFamiliesAt p residues point families)
families_single law one p big residues point families =
    then_single _ _ (each_single _ (λ found family. family_single law one p big residues point _ family) [] families) (λ found. is_single _)

pub points_single : HasOneOutcome → OneSymmetry → PointsAreSingle
points_single law one p kinematics families settings big =
    then_single _ _ (values_single law p big kinematics.symbol settings) (λ values.
    then_single _ _ (point_single law p big values.residues kinematics) (λ point.
    then_single _ _ (families_single law one p big values.residues point families) (λ found. is_single _)))
