pub mod ChangeTests
pub mod KeepLaws
pub mod LoopLaws
pub mod StopLaws
