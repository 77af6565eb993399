pub mod Integral
pub mod KeptIntegral
pub mod Laws
pub mod Order
pub mod ZeroSectors
