pub mod DrawLaws
pub mod DrawTests
