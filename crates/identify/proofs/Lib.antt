pub mod AnswerLaws
pub mod EndLaws
pub mod FetchLaws
pub mod IdentifyTests
pub mod SentLaws
