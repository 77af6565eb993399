pub mod PlaceLemmas
pub mod Expansion
pub mod RuleSystems
pub mod RefusedRules
