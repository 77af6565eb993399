-- Rules with their values.
use Rattle.std.proofs.Common.{◌≡◌, ℕ, ◌<◌, List, length, get_or, All, ap, sym, ◌∙◌, subst}
use Rattle.kinematics.specs.declared.rules.Rule.{Rule}
use Rattle.kinematics.specs.Rules.{IsRule}
use Rattle.kinematics_schema.specs.declared.content.Rule as schema
use Rattle.kinematics_schema.specs.Sound.{HasMomenta}

-- a rule of the file with a residue as its value
pub rule_is : (p externals : ℕ) (rules : List schema.Rule) (place : ℕ) (rule : schema.Rule) (found : Rule) → All (HasMomenta externals) rules → place < length rules → rule ≡ get_or rules place rule →
    found.left ≡ rule.left → found.right ≡ rule.right → found.value < p → IsRule p externals found
rule_is p externals rules place rule found momenta low same left right below =
    let has : HasMomenta externals rule = subst (HasMomenta externals) (sym same) (momenta place rule low) in
    record { left = ap length left ∙ has.left; right = ap length right ∙ has.right; value = below }
