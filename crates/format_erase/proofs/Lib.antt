pub mod KeepLaws
pub mod RoundLaws
pub mod NumberLaws
