pub mod Momenta
pub mod MomentumReader
pub mod Printed
pub mod Laws
