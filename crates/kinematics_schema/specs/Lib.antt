pub mod Independent
pub mod KinematicsFile
pub mod Sound
pub mod Parameters
pub mod Laws
