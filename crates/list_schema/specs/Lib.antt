pub mod Indices
pub mod Lists
pub mod Laws
