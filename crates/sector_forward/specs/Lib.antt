pub mod Fault
pub mod Differences
pub mod Steps
pub mod Elimination
pub mod Eliminated
pub mod KeptEliminated
pub mod Parting
pub mod Laws
