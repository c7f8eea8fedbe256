pub mod OutcomeLaws
pub mod PollLaws
