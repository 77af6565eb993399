pub mod StepLemmas
mod ListLemmas
mod FamilyLemmas
mod RuleLemmas
mod SingleLemmas
pub mod AgreeingSteps
mod Agreement
mod Divisors
pub mod Present
