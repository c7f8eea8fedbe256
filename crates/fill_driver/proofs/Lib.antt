pub mod AnsweredLaws
pub mod DueLaws
pub mod PageLaws
pub mod RunLaws
