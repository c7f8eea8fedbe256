pub mod ConfirmableLaws
pub mod RefusedTests
pub mod IllegalLaws
pub mod OutputLaws
