-- The answers of one step are the same, but where one names a divisor of the modulus.
use Rattle.std.proofs.Common.{◌≡◌, ◌<◌, inl, inr, ℕ, List, [], ◌∷◌, length, All, Ok, Err, refl, sym, ap, ◌∙◌, arith}
use Rattle.std.proofs.lemmas.Bool.{cases_lt}
use Rattle.std.proofs.lemmas.List.{get_or_past}
use Rattle.matrix_elimination.specs.Vectors.{HasLeadingOne}
use Rattle.rational_expressions.specs.Laws.{HasOneOutcome}
use Rattle.kinematics.specs.RuleLaws.{ClashHasNoTable}
use Rattle.kinematics.specs.Points.{Point}
use Rattle.rational_expressions.specs.Trees.{Tree}
use Rattle.kinematics.specs.declared.rules.Rule.{Rule}
use Rattle.propagators.specs.declared.denominators.Denominator.{Denominator}
use Rattle.propagators.specs.Basis.{Basis, forms_of}
use Rattle.propagators.specs.Combinations.{AreIndependent}
use Rattle.symmetry_maps.specs.Laws.{OneSymmetry, FaultRefutesSymmetry}
use Rattle.input_schema.specs.declared.faults.File.{File}
use Rattle.input_schema.specs.declared.faults.InputFault.{InputFault}
use Rattle.kinematics_schema.specs.declared.content.Kinematics.{Kinematics}
use Rattle.family_schema.specs.declared.content.Symmetry.{Symmetry as Map}
use Rattle.family_schema.specs.declared.content.Family.{Family}
use Rattle.job_schema.specs.declared.points.Setting.{Setting}
use Rattle.job_point.specs.declared.faults.PlanError.TheVariants.{Input, Singular, RulesClash, Composite, TooMany, OutOfMemory}
use Rattle.job_point.specs.declared.faults.Singular.TheVariants.{ZeroDivisor, RulesOpen, NotBasis}
use Rattle.job_point.specs.Values.{answer_of, IsValueAt, AreSettingsAt, AreValuesAt}
use Rattle.job_point.specs.Point.{AreRulesAt, IsPointFor, IsPointAt, AreDenominatorsAt, IsBasisFor, images_of, IsSymmetryAt, AreSymmetriesAt, IsFamilyAt, AreFamiliesAt}
use Rattle.job_point.specs.Agreement.{Agrees}
use Rattle.job_point.specs.Laws.{PointsAgree}
use Rattle.job_point.proofs.SingleLemmas.{point_for_single, independent}
use Rattle.job_point.proofs.AgreeingSteps.{same_answer, is_agrees, then_agrees, then_agrees_where, each_agrees}

-- ---- values

value_agrees : HasOneOutcome → (p : ℕ) → 1 < p → (residues : List ℕ) (file : File) (line : ℕ) (tree : Tree) → Agrees p (IsValueAt p residues file line tree)
value_agrees law p big residues file line tree r q h k =
    inl (same_answer r q (sym h.told ∙ ap (answer_of file line) (law p residues tree h.outcome k.outcome big h.is k.is) ∙ k.told))

settings_agree : HasOneOutcome → (p : ℕ) → 1 < p → (settings : List Setting) → Agrees p (AreSettingsAt p settings)
settings_agree law p big settings = each_agrees p _ (λ found setting. value_agrees law p big _ _ _ _) [] settings

values_agree : HasOneOutcome → (p : ℕ) → 1 < p → (symbol : _) (settings : List Setting) → Agrees p (AreValuesAt p symbol settings)
values_agree law p big symbol [] r q h k = absurd h
values_agree law p big symbol (dimension ∷ others) r q h k =
    then_agrees p _ _ (settings_agree law p big others) (λ values. then_agrees p _ _ (value_agrees law p big _ _ _ _) (λ d. is_agrees p _)) r q h k

-- ---- the point

point_for_agrees : ClashHasNoTable → (p externals : ℕ) (rules : List Rule) → Agrees p (IsPointFor p externals rules)
point_for_agrees law p externals rules = by
  where
    by : Agrees p (IsPointFor p externals rules)
    by (Ok a) (Ok b) h k = inl (ap Ok (point_for_single p externals rules b a k h))
    by (Ok a) (Err (RulesClash m r)) h k = absurd (law p externals rules m r k a.products h.products.meets)
    by (Err (RulesClash m r)) (Ok b) h k = absurd (law p externals rules m r h b.products k.products.meets)
    by (Ok a) (Err (Singular (RulesOpen v))) h k = absurd (k.none a.products h.products)
    by (Err (Singular (RulesOpen v))) (Ok b) h k = absurd (h.none b.products k.products)
    by (Err (RulesClash m r)) (Err (RulesClash n s)) h k = inl (RulesClash n s, refl, (n, s, refl))
    by (Err (RulesClash m r)) (Err (Singular (RulesOpen v))) h k = absurd (law p externals rules m r h k.shown.met k.shown.meets)
    by (Err (Singular (RulesOpen v))) (Err (RulesClash m r)) h k = absurd (law p externals rules m r k h.shown.met h.shown.meets)
    by (Err (Singular (RulesOpen v))) (Err (Singular (RulesOpen w))) h k = inl (Singular (RulesOpen w), refl, (w, refl))
    by (Err (Composite f)) q h k = inr (inl h)
    by (Ok a) (Err (Composite g)) h k = inr (inr k)
    by (Err (RulesClash m r)) (Err (Composite g)) h k = inr (inr k)
    by (Err (Singular (RulesOpen v))) (Err (Composite g)) h k = inr (inr k)
    by (Err (Singular (ZeroDivisor file line at))) q h k = absurd h
    by (Err (Singular (NotBasis family v))) q h k = absurd h
    by (Err (Input f)) q h k = absurd h
    by (Err (TooMany what count)) q h k = absurd h
    by (Err OutOfMemory) q h k = absurd h
    by (Ok a) (Err (Singular (ZeroDivisor file line at))) h k = absurd k
    by (Ok a) (Err (Singular (NotBasis family v))) h k = absurd k
    by (Ok a) (Err (Input f)) h k = absurd k
    by (Ok a) (Err (TooMany what count)) h k = absurd k
    by (Ok a) (Err OutOfMemory) h k = absurd k
    by (Err (RulesClash m r)) (Err (Singular (ZeroDivisor file line at))) h k = absurd k
    by (Err (RulesClash m r)) (Err (Singular (NotBasis family v))) h k = absurd k
    by (Err (RulesClash m r)) (Err (Input f)) h k = absurd k
    by (Err (RulesClash m r)) (Err (TooMany what count)) h k = absurd k
    by (Err (RulesClash m r)) (Err OutOfMemory) h k = absurd k
    by (Err (Singular (RulesOpen v))) (Err (Singular (ZeroDivisor file line at))) h k = absurd k
    by (Err (Singular (RulesOpen v))) (Err (Singular (NotBasis family w))) h k = absurd k
    by (Err (Singular (RulesOpen v))) (Err (Input f)) h k = absurd k
    by (Err (Singular (RulesOpen v))) (Err (TooMany what count)) h k = absurd k
    by (Err (Singular (RulesOpen v))) (Err OutOfMemory) h k = absurd k

point_agrees : HasOneOutcome → ClashHasNoTable → (p : ℕ) → 1 < p → (residues : List ℕ) (kinematics : Kinematics) → Agrees p (IsPointAt p residues kinematics)
point_agrees law clash p big residues kinematics =
    then_agrees p (AreRulesAt p residues kinematics.rules) _
    (each_agrees p _ (λ found rule. then_agrees p _ _ (value_agrees law p big _ _ _ _) (λ value. is_agrees p _)) [] kinematics.rules)
    (λ rules. point_for_agrees clash p _ rules)

-- ---- the families

-- a dependence isn't zero
no_zero : (vector : List ℕ) → HasLeadingOne vector → All (λ entry. entry ≡ 0) vector → ⊥
no_zero vector leads zero =
    elim (cases_lt leads.place (length vector)) [
      | inl inside ↦ let none = zero leads.place 0 inside in let one = leads.one in absurd (omega (arith, none, one))
      | inr past ↦ let none = get_or_past vector leads.place 0 past in let one = leads.one in absurd (omega (arith, none, one))
    ]

basis_for_agrees : (p : ℕ) (point : Point) (number loops : ℕ) (denominators : List Denominator) → Agrees p (IsBasisFor p point number loops denominators)
basis_for_agrees p point number loops denominators = by
  where
    by : Agrees p (IsBasisFor p point number loops denominators)
    by (Ok a) (Ok b) h k = inl (ap Ok (k.0 ∙ sym h.0))
    by (Ok a) (Err (Singular (NotBasis family v))) h k = absurd (no_zero v k.1.leads (h.1 v k.1.entries k.1.cancels))
    by (Err (Singular (NotBasis family v))) (Ok b) h k = absurd (no_zero v h.1.leads (k.1 v h.1.entries h.1.cancels))
    by (Err (Singular (NotBasis family v))) (Err (Singular (NotBasis other w))) h k =
        inl (Singular (NotBasis other w), refl, (w, ap (λ n. Singular (NotBasis n w)) (k.0 ∙ sym h.0)))
    by (Err (Composite f)) q h k = inr (inl h)
    by (Ok a) (Err (Composite g)) h k = inr (inr k)
    by (Err (Singular (NotBasis family v))) (Err (Composite g)) h k = inr (inr k)
    by (Err (Singular (ZeroDivisor file line at))) q h k = absurd h
    by (Err (Singular (RulesOpen v))) q h k = absurd h
    by (Err (RulesClash m r)) q h k = absurd h
    by (Err (Input f)) q h k = absurd h
    by (Err (TooMany what count)) q h k = absurd h
    by (Err OutOfMemory) q h k = absurd h
    by (Ok a) (Err (Singular (ZeroDivisor file line at))) h k = absurd k
    by (Ok a) (Err (Singular (RulesOpen v))) h k = absurd k
    by (Ok a) (Err (RulesClash m r)) h k = absurd k
    by (Ok a) (Err (Input f)) h k = absurd k
    by (Ok a) (Err (TooMany what count)) h k = absurd k
    by (Ok a) (Err OutOfMemory) h k = absurd k
    by (Err (Singular (NotBasis family v))) (Err (Singular (ZeroDivisor file line at))) h k = absurd k
    by (Err (Singular (NotBasis family v))) (Err (Singular (RulesOpen w))) h k = absurd k
    by (Err (Singular (NotBasis family v))) (Err (RulesClash m r)) h k = absurd k
    by (Err (Singular (NotBasis family v))) (Err (Input f)) h k = absurd k
    by (Err (Singular (NotBasis family v))) (Err (TooMany what count)) h k = absurd k
    by (Err (Singular (NotBasis family v))) (Err OutOfMemory) h k = absurd k

-- a symmetry, or the line of its map
symmetry_agrees : OneSymmetry → FaultRefutesSymmetry → (p : ℕ) → 1 < p → (basis : Basis) (symmetry : Map) → AreIndependent p (forms_of basis) → Agrees p (IsSymmetryAt basis symmetry)
symmetry_agrees one refutes p big basis symmetry apart = by
  where
    refuted : (places : List ℕ) (f : InputFault) → IsSymmetryAt basis symmetry (Ok places) → IsSymmetryAt basis symmetry (Err (Input f)) → ⊥
    refuted places f h k = refutes p (images_of basis symmetry) (forms_of basis) k.denominator places big apart k.first.from_1 k.first.within k.first.fault h

    by : Agrees p (IsSymmetryAt basis symmetry)
    by (Ok a) (Ok b) h k = inl (ap Ok (one p (images_of basis symmetry) (forms_of basis) b a big apart k h))
    by (Ok a) (Err (Input f)) h k = absurd (refuted a f h k)
    by (Err (Input f)) (Ok b) h k = absurd (refuted b f k h)
    by (Err (Input f)) (Err (Input g)) h k = inl (same_answer _ _ (ap (λ x. Err (Input x)) (h.told ∙ sym k.told)))
    by (Err (Singular cause)) q h k = absurd h
    by (Err (RulesClash m r)) q h k = absurd h
    by (Err (Composite f)) q h k = absurd h
    by (Err (TooMany what count)) q h k = absurd h
    by (Err OutOfMemory) q h k = absurd h
    by (Ok a) (Err (Singular cause)) h k = absurd k
    by (Ok a) (Err (RulesClash m r)) h k = absurd k
    by (Ok a) (Err (Composite f)) h k = absurd k
    by (Ok a) (Err (TooMany what count)) h k = absurd k
    by (Ok a) (Err OutOfMemory) h k = absurd k
    by (Err (Input f)) (Err (Singular cause)) h k = absurd k
    by (Err (Input f)) (Err (RulesClash m r)) h k = absurd k
    by (Err (Input f)) (Err (Composite g)) h k = absurd k
    by (Err (Input f)) (Err (TooMany what count)) h k = absurd k
    by (Err (Input f)) (Err OutOfMemory) h k = absurd k

family_agrees : HasOneOutcome → OneSymmetry → FaultRefutesSymmetry → (p : ℕ) → 1 < p → (residues : List ℕ) (point : Point) (number : ℕ) (family : Family) → Agrees p (IsFamilyAt p residues point number family)
family_agrees law one refutes p big residues point number family =
    then_agrees p (AreDenominatorsAt p residues family.propagators) _
    (each_agrees p _ (λ found propagator. then_agrees p _ _ (value_agrees law p big _ _ _ _) (λ mass. is_agrees p _)) [] family.propagators)
    (λ denominators. then_agrees_where p (IsBasisFor p point number (length family.loops) denominators) _ (basis_for_agrees p point number _ denominators) (λ basis is.
    then_agrees p (AreSymmetriesAt basis family.symmetries) _
    (each_agrees p _ (λ found symmetry. symmetry_agrees one refutes p big basis symmetry (independent p point number _ denominators basis is)) [] family.symmetries) (λ symmetries. is_agrees p _)))

families_agree : HasOneOutcome → OneSymmetry → FaultRefutesSymmetry → (p : ℕ) → 1 < p → (residues : List ℕ) (point : Point) (families : List Family) → Agrees p (AreFamiliesAt p residues point families)
families_agree law one refutes p big residues point families =
    then_agrees p _ _ (each_agrees p _ (λ found family. family_agrees law one refutes p big residues point _ family) [] families) (λ found. is_agrees p _)

pub points_agree : HasOneOutcome → ClashHasNoTable → OneSymmetry → FaultRefutesSymmetry → PointsAgree
points_agree law clash one refutes p kinematics families settings big =
    then_agrees p _ _ (values_agree law p big kinematics.symbol settings) (λ values.
    then_agrees p _ _ (point_agrees law clash p big values.residues kinematics) (λ point.
    then_agrees p _ _ (families_agree law one refutes p big values.residues point families) (λ found. is_agrees p _)))
