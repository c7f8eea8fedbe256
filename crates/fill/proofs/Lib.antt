pub mod FillLaws
pub mod FillTests
pub mod KeepLaws
pub mod MainLaws
pub mod PageLaws
