pub mod DearestLaws
pub mod KeptLaws
pub mod LedgerLaws
pub mod LibraryLaws
pub mod OpenedLaws
pub mod SizeLaws
