pub mod Ratios
pub mod Specs
pub mod Jobs
pub mod Overridden
pub mod KeptOverride
pub mod Overrides
pub mod Laws
