pub mod CrcLaws
pub mod CrcTests
pub mod PageLaws
pub mod PageTests
pub mod ToldLaws
