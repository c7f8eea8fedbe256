pub mod ByteLaws
pub mod LengthLaws
pub mod RefusedTests
pub mod RepeatLaws
pub mod ReplayLaws
