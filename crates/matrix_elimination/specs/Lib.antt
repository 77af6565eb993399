pub mod Vectors
pub mod Elimination
pub mod Fault
pub mod Steps
pub mod Systems
pub mod Solutions
