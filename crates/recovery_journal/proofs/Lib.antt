pub mod PassLaws
pub mod BookLaws
pub mod JournalSteps
pub mod JournalLaws
pub mod CycleLaws
pub mod SentLaws
