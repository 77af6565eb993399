pub mod Shifts
pub mod Equation
pub mod Collecting
pub mod Laws
