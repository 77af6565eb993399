mod Counts
pub mod Single
pub mod Present
