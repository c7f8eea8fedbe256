pub mod BitLaws
pub mod StreamLaws
pub mod BeginLaws
pub mod WhitenedLaws
pub mod StreamTests
