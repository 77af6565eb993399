pub mod Tokens
pub mod Pieces
pub mod Names
pub mod Faults
