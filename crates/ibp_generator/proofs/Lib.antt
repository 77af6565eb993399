pub mod SumLemmas
pub mod TermLemmas
pub mod CollectingLemmas
pub mod ShiftLemmas
pub mod DenominatorLemmas
pub mod EquationLemmas
