-- A rule as a row: the coefficient of each product of two external momenta, in the order of the tables.
use Rattle.std.specs.Prelude.{◌≡◌, ℕ, List, [], ◌∷◌, ◌++◌, map}
use Rattle.field_word.specs.Residues.{sum_of, product_of}
use Rattle.matrix_elimination.specs.declared.systems.SystemFault.{SystemFault}
use Rattle.matrix_elimination.specs.declared.systems.SystemFault.TheVariants as system_fault
use Rattle.kinematics.specs.declared.rules.Rule.{Rule}
use Rattle.kinematics.specs.declared.rules.PointFault.{PointFault}
use Rattle.kinematics.specs.declared.rules.PointFault.TheVariants as point_fault
use Rattle.kinematics.specs.Rules.{residue_of}

-- the products of one momentum, with the coefficients l and r, and each later one
abbrev pub mixed : ℕ → ℕ → ℕ → List ℕ → List ℕ → List ℕ
mixed p l r [] rights = []
mixed p l r (a ∷ lefts) [] = []
mixed p l r (a ∷ lefts) (b ∷ rights) = sum_of p (product_of p l b) (product_of p a r) ∷ mixed p l r lefts rights

abbrev pub row_of : ℕ → List ℕ → List ℕ → List ℕ
row_of p [] rights = []
row_of p (l ∷ lefts) [] = []
row_of p (l ∷ lefts) (r ∷ rights) = product_of p l r ∷ mixed p l r lefts rights ++ row_of p lefts rights

-- the row of a rule
abbrev pub rule_row_of : ℕ → Rule → List ℕ
rule_row_of p rule = row_of p (map (residue_of p) rule.left) (map (residue_of p) rule.right)

-- a fault of the linear system is one of the rules
abbrev pub FaultGives : SystemFault → PointFault → Type 0
FaultGives (system_fault.Clash multipliers residue) e = e ≡ point_fault.RulesClash multipliers residue
FaultGives (system_fault.Open vector) e = e ≡ point_fault.RulesOpen vector
FaultGives (system_fault.Composite fault) e = e ≡ point_fault.Composite fault
FaultGives system_fault.OutOfMemory e = e ≡ point_fault.OutOfMemory
