pub mod EndLaws
pub mod ReadingLaws
pub mod ReadingTests
pub mod RefusalLaws
pub mod SentLaws
