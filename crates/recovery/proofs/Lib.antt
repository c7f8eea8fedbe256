pub mod BookTests
pub mod SparedLaws
pub mod CopyLaws
pub mod ListTests
