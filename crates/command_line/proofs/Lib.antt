pub mod Simple
pub mod PlainWords
pub mod Asking
