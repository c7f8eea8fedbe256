pub mod ChipLaws
pub mod KeepLaws
