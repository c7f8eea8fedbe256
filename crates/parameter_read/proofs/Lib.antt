pub mod CycleLaws
pub mod ParameterLaws
pub mod ReadTests
