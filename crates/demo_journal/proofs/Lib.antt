pub mod LineTests
pub mod SaleLaws
