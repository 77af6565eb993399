pub mod Substitution
pub mod Substituted
pub mod KeptSubstituted
pub mod Laws
pub mod Pivots
pub mod Steps
pub mod Sums
