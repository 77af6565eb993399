-- Kinematic rules, and the point that meets them. The project's own, after the rules of Kira's kinematics
-- files (arXiv:1705.05610): a rule gives the product of two external momenta a value.
use Rattle.std.specs.Prelude.{⊤, ◌≡◌, ◌≢◌, ℕ, zero, suc, ◌+◌, ◌*◌, ◌%◌, ◌<◌, List, length, map, All, ℤ, pos, negsuc}
use Rattle.std.specs.List.{slice_index_or}
use Rattle.field_word.specs.Residues.{opposite_of}
use Rattle.matrix_elimination.specs.Vectors.{IsVector, HasLeadingOne, dot}
use Rattle.matrix_elimination.specs.Fault.{IsProperDivisor}
use Rattle.kinematics.specs.Points.{IsTable, table_at}
use Rattle.kinematics.specs.declared.rules.Rule.{Rule}
use Rattle.kinematics.specs.declared.rules.PointFault.{PointFault}
use Rattle.kinematics.specs.declared.rules.PointFault.TheVariants.{RulesClash, RulesOpen, Composite, OutOfMemory}

-- the residue of a whole number
abbrev pub residue_of : ℕ → ℤ → ℕ
residue_of p (pos n) = n % p
residue_of p (negsuc n) = opposite_of p (suc n % p)

-- the sum of f at the numbers below n
abbrev pub sum_below : ℕ → (ℕ → ℕ) → ℕ
sum_below zero f = 0
sum_below (suc n) f = f 0 + sum_below n (λ k. f (suc k))

-- the residue of the coefficient of a momentum, counted from 0
abbrev pub coefficient_at : ℕ → List ℤ → ℕ → ℕ
coefficient_at p momentum x = residue_of p (slice_index_or momentum x (pos 0))

-- the product of two momenta, expanded over a table of the products of the external momenta
abbrev pub expanded : ℕ → ℕ → List ℤ → List ℤ → List ℕ → ℕ
expanded p externals left right products =
    sum_below externals (λ x. sum_below externals (λ y. coefficient_at p left x * coefficient_at p right y * table_at externals products (suc x) (suc y)))

-- the rule's product over the table
abbrev pub product_over : ℕ → ℕ → List ℕ → Rule → ℕ
product_over p externals products rule = expanded p externals rule.left rule.right products

-- momenta over this many external ones, and a residue
pub record IsRule (p externals : ℕ) (rule : Rule) : Type 0 where
  pub left : length rule.left ≡ externals
  pub right : length rule.right ≡ externals
  pub value : rule.value < p

-- the table meets all rules: the product of each has its value
pub record Meets (p externals : ℕ) (rules : List Rule) (products : List ℕ) : Type 0 where
  pub table : IsTable p externals products
  pub each : All (λ rule. product_over p externals products rule % p ≡ rule.value) rules

-- the table meets the rules, and no other table does
pub record IsPointOf (p externals : ℕ) (rules : List Rule) (products : List ℕ) : Type 0 where
  pub meets : Meets p externals rules products
  pub only : (other : List ℕ) → Meets p externals rules other → other ≡ products

-- Over every table the rules' products, each as often as its multiplier says, cancel, and their values sum
-- to the residue, which isn't 0.
pub record IsRulesClash (p externals : ℕ) (rules : List Rule) (multipliers : List ℕ) (residue : ℕ) : Type 0 where
  pub vector : IsVector p (length rules) multipliers
  pub cancels : (products : List ℕ) → dot multipliers (map (product_over p externals products) rules) % p ≡ 0
  pub sum : dot multipliers (map (λ rule. rule.value) rules) % p ≡ residue
  pub differs : residue ≢ 0

-- Some table meets the rules, and the product of each rule vanishes over the vector, whose first entry other
-- than 0 is 1.
pub record IsRulesOpen (p externals : ℕ) (rules : List Rule) (vector : List ℕ) : Type 0 where
  pub table : IsTable p externals vector
  pub leads : HasLeadingOne vector
  pub vanishes : All (λ rule. product_over p externals vector rule % p ≡ 0) rules
  pub met : List ℕ
  pub meets : Meets p externals rules met

-- why there is no point, or none was found. Of memory nothing is said
abbrev pub HasPointCause : ℕ → ℕ → List Rule → PointFault → Type 0
HasPointCause p externals rules (RulesClash multipliers residue) = IsRulesClash p externals rules multipliers residue
HasPointCause p externals rules (RulesOpen vector) = IsRulesOpen p externals rules vector
HasPointCause p externals rules (Composite fault) = IsProperDivisor p fault.divisor
HasPointCause p externals rules OutOfMemory = ⊤
