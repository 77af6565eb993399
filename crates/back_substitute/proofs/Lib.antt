pub mod Index
pub mod Pairs
pub mod Clearing
pub mod Multipliers
pub mod Substitutions
pub mod OnlyOne
pub mod Longer
