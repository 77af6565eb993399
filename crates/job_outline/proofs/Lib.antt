pub mod Outcomes
pub mod JobSpecs
pub mod Jobs
pub mod FamilyLemmas
pub mod NameLemmas
pub mod OutlineLaws
mod Present
