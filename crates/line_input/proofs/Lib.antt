pub mod FieldLaws
pub mod FieldTests
