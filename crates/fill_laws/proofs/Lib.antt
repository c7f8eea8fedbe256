pub mod ReachLaws
pub mod BlockLaws
pub mod TableLaws
pub mod ChangeLaws
pub mod KeepLaws
pub mod PortionLaws
pub mod FillTests
