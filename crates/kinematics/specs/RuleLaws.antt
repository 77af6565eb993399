-- Laws of rules that have no point. The project's own.
use Rattle.std.specs.Prelude.{ℕ, ◌<◌, List, All}
use Rattle.kinematics.specs.declared.rules.Rule.{Rule}
use Rattle.kinematics.specs.Rules.{IsRule, Meets, IsPointOf, IsRulesClash, IsRulesOpen}

-- where rules clash, no table meets them
abbrev pub ClashHasNoTable : Type 0
ClashHasNoTable =
    (p externals : ℕ) (rules : List Rule) (multipliers : List ℕ) (residue : ℕ) → IsRulesClash p externals rules multipliers residue → (products : List ℕ) → Meets p externals rules products → ⊥

-- where rules leave a product open, no table is the only one that meets them
abbrev pub OpenHasNoPoint : Type 0
OpenHasNoPoint =
    (p externals : ℕ) (rules : List Rule) (vector : List ℕ) → 1 < p → All (IsRule p externals) rules → IsRulesOpen p externals rules vector → (products : List ℕ) → IsPointOf p externals rules products → ⊥
