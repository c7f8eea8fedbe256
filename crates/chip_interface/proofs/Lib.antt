pub mod RefusedTests
pub mod IllegalLaws
