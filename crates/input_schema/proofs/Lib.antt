pub mod SmallProducts
pub mod MomentumSteps
pub mod Steps
pub mod Present
