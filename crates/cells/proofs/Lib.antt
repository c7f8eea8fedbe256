pub mod CellLaws
pub mod CellTests
pub mod PartLaws
pub mod RewriteLaws
