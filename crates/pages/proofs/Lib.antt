pub mod ByteLaws
pub mod CheckLaws
pub mod CountLaws
pub mod LayoutLaws
pub mod OverLaws
pub mod PageTests
