pub mod CodeLaws
pub mod ForceLaws
pub mod EndLaws
pub mod BytesLaws
pub mod TakingsLaws
pub mod JournalTests
