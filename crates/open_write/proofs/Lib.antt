pub mod BesideLaws
pub mod OpenTests
pub mod WordLaws
