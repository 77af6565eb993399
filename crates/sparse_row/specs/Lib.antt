pub mod Row
pub mod Span
pub mod ReducedList
pub mod Terms
pub mod KeptRow
pub mod SumOfTerms
pub mod Laws
