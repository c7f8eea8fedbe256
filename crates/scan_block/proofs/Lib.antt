pub mod ScanLaws
pub mod KeepLaws
pub mod MarkLaws
