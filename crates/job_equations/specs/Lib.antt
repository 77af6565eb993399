pub mod Places
pub mod Equations
pub mod Appending
pub mod Bounds
pub mod Laws
