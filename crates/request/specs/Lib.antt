pub mod Call
pub mod Start
