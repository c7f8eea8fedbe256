pub mod PageReadLaws
pub mod JoinedLaws
pub mod UnreadyLaws
pub mod IndependentLaws
pub mod MeaningLaws
