pub mod BlockLaws
pub mod VisitLaws
pub mod QuickLaws
pub mod DepthLaws
