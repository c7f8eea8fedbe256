pub mod AtLaws
pub mod CaptureLaws
pub mod CaptureTests
