pub mod RanLaws
pub mod QuickScanLaws
pub mod BlockKeepLaws
