pub mod MomentumLemmas
pub mod TallyLemmas
pub mod MomentumSteps
pub mod SmallSums
pub mod PrintedTokens
pub mod PrintedMomenta
pub mod ReadingLaws
