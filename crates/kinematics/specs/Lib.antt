pub mod Points
pub mod KeptPoint
pub mod Rules
pub mod RuleRows
pub mod RuleLaws
