-- What kinematics keep that were read. The project's own.
use Rattle.std.specs.Prelude.{◌≡◌, ◌<◌, ◌≤◌, ℕ, List, length, All, IfSome}
use Rattle.kinematics_schema.specs.declared.content.Rule.{Rule}
use Rattle.kinematics_schema.specs.declared.content.Kinematics.{Kinematics}
use Rattle.kinematics_schema.specs.Independent.{independents, HasCounts}

-- the momenta of a rule have so many coefficients
pub record HasMomenta (count : ℕ) (rule : Rule) : Type 0 where
  pub left : length rule.left ≡ count
  pub right : length rule.right ≡ count

-- few momenta and invariants, rules over the independent momenta, and a symbol that is an invariant
pub record IsSound (kinematics : Kinematics) : Type 0 where
  pub counts : HasCounts kinematics.conserved (length kinematics.externals)
  pub few : length (independents kinematics.conserved kinematics.externals) ≤ 6
  pub few_externals : length kinematics.externals ≤ 14
  pub few_invariants : length kinematics.invariants ≤ 32
  pub rules : All (HasMomenta (length (independents kinematics.conserved kinematics.externals))) kinematics.rules
  pub symbol : IfSome kinematics.symbol (λ place. place < length kinematics.invariants)
