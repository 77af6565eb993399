pub mod State
pub mod Machine
pub mod Tasks
pub mod Accepted
pub mod Invariant
pub mod Laws
