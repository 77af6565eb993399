pub mod Reaching
pub mod FormsApart
pub mod SendingLemmas
pub mod MovedLemmas
pub mod EquationLemmas
