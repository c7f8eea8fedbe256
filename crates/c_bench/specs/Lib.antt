pub mod Start
