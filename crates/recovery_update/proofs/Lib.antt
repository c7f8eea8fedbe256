pub mod OlderLaws
pub mod UpdateLaws
pub mod UpdateTests
