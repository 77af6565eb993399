pub mod Trees
pub mod TreeCode
pub mod Values
pub mod ValueReader
pub mod ValueItems
pub mod Evaluation
pub mod Execution
pub mod Laws
