pub mod CycleLaws
pub mod DearestTests
pub mod ToldLaws
pub mod WordLaws
