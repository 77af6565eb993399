pub mod Shapes
pub mod Faults
pub mod ListFiles
pub mod Gathering
pub mod Steps
pub mod Plans
pub mod KeptPlan
pub mod Laws
