pub mod Families
pub mod Words
mod Present
