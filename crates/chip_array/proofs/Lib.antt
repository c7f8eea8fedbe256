pub mod DeviceLaws
pub mod RefusedTests
pub mod IllegalLaws
pub mod ProtectLaws
