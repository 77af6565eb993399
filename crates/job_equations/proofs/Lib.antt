pub mod AppendLemmas
pub mod EquationLemmas
pub mod BoundLemmas
