pub mod AfterLaws
pub mod KeepLaws
pub mod NumberLaws
pub mod StatusLaws
