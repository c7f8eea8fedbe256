pub mod FetchLaws
pub mod PageLaws
