pub mod Sending
pub mod Pieces
pub mod TableText
pub mod Distinct
pub mod Laws
