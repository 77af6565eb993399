pub mod ValueLemmas
pub mod ValueSteps
pub mod ValueTurns
pub mod ValueEnds
pub mod EvaluationLemmas
pub mod OutcomeLemmas
pub mod ReadingLaws
