pub mod Steps
pub mod Values
pub mod Point
pub mod Agreement
pub mod Laws
