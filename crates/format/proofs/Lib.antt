pub mod EndLaws
pub mod WholeLaws
