pub mod Cutting
pub mod LineSteps
pub mod PieceLaws
mod Present
