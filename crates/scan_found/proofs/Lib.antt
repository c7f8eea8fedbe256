pub mod ContentsLaws
pub mod FoundLaws
pub mod MapLaws
pub mod ToldLaws
