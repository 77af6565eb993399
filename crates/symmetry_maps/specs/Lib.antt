pub mod Permutation
pub mod Symmetry
pub mod Equation
pub mod Laws
pub mod Steps
